-- What the journal of a script's session shows.
use Rattle.std.specs.Prelude.{◌≡◌, ℕ, List, Option, None, Some, Result, Ok, Err, map, count_by, is_some}
use Rattle.std.specs.Prelude.{if◌then◌else◌}
use Rattle.table_rules.specs.Objects.{Catalogue, Obj}
use Rattle.sky_rules.specs.Partition.{Partition, chunk_count}
use Rattle.scan_rules.specs.Lines.{closes}
use Rattle.scan_rules.specs.Runs.{IsRun}
use Rattle.scan_rules.specs.declared.journal.Journal.{Journal}
use Rattle.sql_rules.specs.PrintedExprs.{Bytes}
use Rattle.answer_rules.specs.Plans.{plan_of}
use Rattle.session_script.specs.Views.{ScriptView, query_lines}
use Rattle.session_rules.specs.declared.end.EndKind.{EndKind}
use Rattle.scan_session.specs.Drove.{Drove}
use Rattle.scan_session.specs.KnownEnds.{at_query}
use Rattle.scan_session.specs.Plans.{Plans}
use Rattle.query_ends.specs.States.{AreEndsIn}
use Rattle.transcript_rules.specs.Refusals.{Understood, understood, early_refusal}
use Rattle.transcript_rules.specs.declared.refusal.Refusal.{Refusal}

-- the chunks that a query needs; a text that does not bind needs none
abbrev pub chunks_needed : Partition → List Obj → Result Understood Refusal → Option (List ℕ)
chunks_needed g table (Ok u) = Some (plan_of g table u.bound)
chunks_needed g table (Err why) = None

-- the chunks of the plan of the query with this line; None if it is refused before it is run
abbrev pub planned_chunks : Partition → Catalogue → Bytes → Option (List ℕ)
planned_chunks g c text =
    if is_some (early_refusal g c text) then None else chunks_needed g c.objects (understood c.names text)

-- the chunks that are planned for the queries with these lines, which are numbered from 1
abbrev pub plans_of : Partition → Catalogue → List Bytes → Plans
plans_of g c lines q = at_query (map (planned_chunks g c) lines) q

-- A journal that a session of this script may leave, with the given number of workers, over a sky plan and a catalogue,
-- if its queries have these ends.
pub record IsTraceOf (workers : ℕ) (g : Partition) (c : Catalogue) (s : ScriptView) (ends : List EndKind)
    (journal : Journal) : Type 0 where
  -- the ring is the number of chunks of the sky plan
  pub ring : journal.ring ≡ chunk_count g
  -- the journal is a run: each line may follow those before it
  pub right : IsRun journal.ring journal.lines
  -- The queries that are not refused before they are run are attached in script order, each with the chunks of its plan,
  -- and nothing else is. Each is collected once, each task is delivered, and the script's waits and cancels are obeyed.
  pub drove : Drove workers (plans_of g c (query_lines s)) s.steps journal.lines
  -- the board is closed once
  pub closed : count_by closes journal.lines ≡ 1
  -- each query ended as Cancelled, or as Spent, exactly if it is in that state in the journal
  pub states : AreEndsIn (λ q. journal.lines) ends
