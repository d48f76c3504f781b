-- A text with a fault is not accepted, and each text of a job is.
use Rattle.std.proofs.Common.{◌≡◌, ℕ, List, Option, Some, Result, Ok, Err, sym, subst, arith}
use Rattle.sky_rules.specs.declared.fault.SkyFault.{SkyFault}
use Rattle.table_rules.specs.declared.fault.LoadFault.{LoadFault}
use Rattle.session_script.specs.declared.fault.ScriptFault.{ScriptFault}
use Rattle.scan_history.specs.Texts.{journal_of}
use Rattle.scan_rules.specs.Runs.{IsRun}
use Rattle.scan_history.specs.declared.fault.HistoryFault.{HistoryFault}
use Rattle.scan_history.specs.declared.fault.HistoryFault.TheVariants.{Syntax, NotAStep}
use Rattle.scan_rules.specs.declared.journal.Journal.{Journal as JournalView}
use Rattle.top_call.specs.Words.{Form, Load, Asks, AsksSources, Check, Demo, names_of}
use Rattle.top_call.specs.Reached.{AreAccepted, HasText, IsAccepted, IsLong, Texts}
use Rattle.top_call.specs.Reached.{IsCatalogueFault, IsScriptFault, IsSkyFault, IsSourcesFault}
use Rattle.top_call.specs.Journals.{IsFaultOf}
use Rattle.top_call.specs.Jobs.{Job, IsJobOf}
use Rattle.top_call.specs.declared.outcome.Which.{Which}
use Rattle.top_call.specs.declared.outcome.Which.TheVariants.{Sky, Catalogue, Sources, Script, Journal}

-- a text with a fault isn't accepted: a sky plan
pub sky_fault : (text : List ℕ) (fault : SkyFault) → IsSkyFault text fault → IsAccepted Sky text → ⊥
sky_fault text fault is (plan, ok) = absurd (cc (is.1, ok.1))

-- a catalogue
pub catalogue_fault : (text : List ℕ) (fault : LoadFault) → IsCatalogueFault text fault → IsAccepted Catalogue text → ⊥
catalogue_fault text fault is (table, ok) = absurd (cc (is.1, ok.1))

-- a source table
pub sources_fault : (text : List ℕ) (fault : LoadFault) → IsSourcesFault text fault → IsAccepted Sources text → ⊥
sources_fault text fault is (table, ok) = absurd (cc (is.1, ok.1))

-- a script
pub script_fault : (text : List ℕ) (fault : ScriptFault) → IsScriptFault text fault → IsAccepted Script text → ⊥
script_fault text fault is (view, ok) = let read = ok.read in absurd (cc (is.1, read))

-- a journal that is read and whose first wrong entry is named isn't right
pub journal_fault :
    (text : List ℕ) (fault : HistoryFault) (read : Result JournalView HistoryFault) → journal_of text ≡ read
    → IsFaultOf read fault → IsAccepted Journal text → ⊥
journal_fault text fault (Err found) is faulty (journal, ok) = let read = ok.read in absurd (cc (is, read))
journal_fault text (Syntax line) (Ok other) is faulty (journal, ok) = absurd faulty
journal_fault text (NotAStep line) (Ok other) is faulty (journal, ok) =
    let read = ok.read in
    let same : other ≡ journal = cc (is, read) in
    let run : IsRun other.ring other.lines = subst (λ (j : JournalView). IsRun j.ring j.lines) (sym same) ok.right in
    faulty.wrong (run.follows faulty.before faulty.entry faulty.rest faulty.cut)

-- nor is a text that is too long
pub long_text : (which : Which) (text : List ℕ) → IsLong which text → IsAccepted which text → ⊥
long_text Sky text long (plan, ok) = let short = ok.0 in absurd (omega arith)
long_text Catalogue text long (table, ok) = let short = ok.0 in absurd (omega arith)
long_text Sources text long (table, ok) = let short = ok.0 in absurd (omega arith)
long_text Script text long (view, ok) = let short = ok.short in absurd (omega arith)
long_text Journal text long (journal, ok) = let short = ok.short in absurd (omega arith)

-- a demo names no text
pub none_named : (count seed workers : ℕ) (which : Which) → HasText (names_of (Demo count seed workers)) which → ⊥
none_named count seed workers Sky has = absurd (cc has)
none_named count seed workers Catalogue has = absurd (cc has)
none_named count seed workers Sources has = absurd (cc has)
none_named count seed workers Script has = absurd (cc has)
none_named count seed workers Journal has = absurd (cc has)

-- each text of a job is accepted
job_accepted : (form : Form) (texts : Texts) (job : Job) → IsJobOf form (Some texts) job → AreAccepted (names_of form) texts
job_accepted (Load sky catalogue) texts job is Sky has = (is.0.plan, is.2.0)
job_accepted (Load sky catalogue) texts job is Catalogue has = (is.0.rows, is.2.1)
job_accepted (Load sky catalogue) texts job is Sources has = absurd (cc has)
job_accepted (Load sky catalogue) texts job is Script has = absurd (cc has)
job_accepted (Load sky catalogue) texts job is Journal has = absurd (cc has)
job_accepted (Asks task sky catalogue script) texts job is Sky has = (is.0.plan, is.3.0.0)
job_accepted (Asks task sky catalogue script) texts job is Catalogue has = (is.0.rows, is.3.0.1)
job_accepted (Asks task sky catalogue script) texts job is Sources has = absurd (cc has)
job_accepted (Asks task sky catalogue script) texts job is Script has = (is.1, is.3.1)
job_accepted (Asks task sky catalogue script) texts job is Journal has = absurd (cc has)
job_accepted (AsksSources workers sky catalogue sources script) texts job is Sky has = (is.0.plan, is.3.0.0)
job_accepted (AsksSources workers sky catalogue sources script) texts job is Catalogue has = (is.0.rows, is.3.0.1)
job_accepted (AsksSources workers sky catalogue sources script) texts job is Sources has = (is.0.table, is.3.0.2)
job_accepted (AsksSources workers sky catalogue sources script) texts job is Script has = (is.1, is.3.1)
job_accepted (AsksSources workers sky catalogue sources script) texts job is Journal has = absurd (cc has)
job_accepted (Check journal) texts job is Sky has = absurd (cc has)
job_accepted (Check journal) texts job is Catalogue has = absurd (cc has)
job_accepted (Check journal) texts job is Sources has = absurd (cc has)
job_accepted (Check journal) texts job is Script has = absurd (cc has)
job_accepted (Check journal) texts job is Journal has = (is.0, is.3)
job_accepted (Demo count seed workers) texts job is which has = absurd (none_named count seed workers which has)

-- the same, if the texts are observable
pub visible_accepted :
    (form : Form) (visible : Option Texts) (texts : Texts) (job : Job) → visible ≡ Some texts → IsJobOf form visible job →
    AreAccepted (names_of form) texts
visible_accepted form visible texts job is asked = job_accepted form texts job (subst (λ t. IsJobOf form t job) is asked)
