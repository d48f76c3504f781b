-- The transcript of a script over a child table, and which ends fit it. Here g is a sky plan, c a catalogue, t a source
-- table and s a script.
use Rattle.std.specs.Prelude.{◌≡◌, ℕ, true, false, List, map, zip}
use Rattle.std.specs.Option.{is_some}
use Rattle.text_rules.specs.Readings.{joined}
use Rattle.table_rules.specs.Objects.{Catalogue}
use Rattle.sky_rules.specs.Partition.{Partition}
use Rattle.source_rules.specs.Sources.{SourceTable}
use Rattle.sql_rules.specs.PrintedExprs.{Bytes}
use Rattle.session_script.specs.Views.{ScriptView, query_lines}
use Rattle.session_rules.specs.Ends.{Judged, fit}
use Rattle.session_rules.specs.declared.end.EndKind.{EndKind}
use Rattle.transcript_rules.specs.Blocks.{blocks_by}
use Rattle.transcript_rules.specs.Transcripts.{is_idle}
use Rattle.child_transcripts.specs.ChildBlocks.{child_block}
use Rattle.child_bind_rules.specs.PairColumns.{schemas_of}
use Rattle.child_transcripts.specs.ChildQueries.{child_refusal, child_understood}

-- the blocks of a script whose queries have these ends, numbered from 1
abbrev pub child_blocks_of : Partition → Catalogue → SourceTable → ScriptView → List EndKind → List Bytes
child_blocks_of g c t s ends =
    blocks_by (λ k query. child_block g c t k query.0 query.1) 1 (zip (query_lines s) ends)

-- the transcript of a script whose queries have these ends, over a sky plan, a catalogue and a source table
unfoldable pub child_transcript : Partition → Catalogue → SourceTable → ScriptView → List EndKind → Bytes
child_transcript g c t s ends = joined (child_blocks_of g c t s ends)

-- the facts about a query that hold in every session; no child query has a total
unfoldable pub child_judged_of : Partition → Catalogue → SourceTable → Bytes → Judged
child_judged_of g c t text = record {
  early = is_some (child_refusal (schemas_of c.names t.names) text);
  total = false;
  idle = is_idle g c.objects (child_understood (schemas_of c.names t.names) text);
}

-- the ends fit the script with the given number of workers, over a sky plan, a catalogue and a source table
abbrev pub ChildFitEnds : ℕ → Partition → Catalogue → SourceTable → ScriptView → List EndKind → Type 0
ChildFitEnds workers g c t s ends =
    fit workers s.steps (map (child_judged_of g c t) (query_lines s)) ends ≡ true
