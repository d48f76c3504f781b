-- The text that a trace writes.
use Rattle.std.proofs.Common.{ℕ, List, refl}
use Rattle.scan_rules.specs.declared.journal.Journal.{Journal}
use Rattle.scan_history.specs.Printed.{journal_text}
use Rattle.chunk_store.specs.Survey.{Survey}
use Rattle.session_rules.specs.declared.end.EndKind.{EndKind}
use Rattle.session_script.specs.Views.{ScriptView}
use Rattle.czar.specs.Traces.{IsTraceOf}
use Rattle.top_call.specs.Jobs.{Traces, Writes}

-- the text of a journal of the session is what a trace writes
pub trace_written : (workers : ℕ) (survey : Survey) (view : ScriptView) (ends : List EndKind) (journal : Journal)
    → IsTraceOf workers survey.plan survey.rows view ends journal
    → Writes (Traces workers survey view) ends (journal_text journal)
trace_written workers survey view ends journal trace = record { journal = journal; trace = trace; is = refl }
