-- The transcript of a script, and which ends fit it. Here g is a sky plan, c a catalogue and s a script.
use Rattle.std.specs.Prelude.{◌≡◌, ℕ, Bool, true, false, List, [], ◌∷◌, map, zip, Result, Ok, Err}
use Rattle.std.specs.Option.{is_some}
use Rattle.text_rules.specs.Readings.{joined}
use Rattle.table_rules.specs.Objects.{Obj, Catalogue}
use Rattle.sky_rules.specs.Partition.{Partition}
use Rattle.sql_rules.specs.PrintedExprs.{Bytes}
use Rattle.answer_rules.specs.Plans.{plan_of}
use Rattle.session_script.specs.Views.{ScriptView, query_lines}
use Rattle.session_rules.specs.Ends.{Judged, fit}
use Rattle.session_rules.specs.declared.end.EndKind.{EndKind}
use Rattle.transcript_rules.specs.declared.refusal.Refusal.{Refusal}
use Rattle.transcript_rules.specs.Refusals.{Understood, understood, early_refusal, total_refusal}
use Rattle.transcript_rules.specs.Blocks.{block, blocks_by}

-- the blocks of queries with these ends, the first of which has this number
abbrev pub blocks_from : Partition → Catalogue → ℕ → List Bytes → List EndKind → List Bytes
blocks_from g c k texts ends = blocks_by (λ n query. block g c n query.0 query.1) k (zip texts ends)

-- the blocks of a script whose queries have these ends, numbered from 1
abbrev pub blocks_of : Partition → Catalogue → ScriptView → List EndKind → List Bytes
blocks_of g c s ends = blocks_from g c 1 (query_lines s) ends

-- the transcript of a script whose queries have these ends, over a sky plan and a catalogue
unfoldable pub transcript : Partition → Catalogue → ScriptView → List EndKind → Bytes
transcript g c s ends = joined (blocks_of g c s ends)

-- the list of chunks is empty
abbrev pub is_none_of : List ℕ → Bool
is_none_of [] = true
is_none_of (c ∷ chunks) = false

-- a query that binds is idle if its plan has no chunks; a query that does not bind has no plan and is idle
abbrev pub is_idle : Partition → List Obj → Result Understood Refusal → Bool
is_idle g table (Ok u) = is_none_of (plan_of g table u.bound)
is_idle g table (Err why) = true

-- the facts about a query that hold in every session
unfoldable pub judged_of : Partition → Catalogue → Bytes → Judged
judged_of g c text = record {
  early = is_some (early_refusal g c text);
  total = is_some (total_refusal c text);
  idle = is_idle g c.objects (understood c.names text);
}

-- the ends fit the script with the given number of workers, over a sky plan and a catalogue
abbrev pub FitEnds : ℕ → Partition → Catalogue → ScriptView → List EndKind → Type 0
FitEnds workers g c s ends = fit workers s.steps (map (judged_of g c) (query_lines s)) ends ≡ true
