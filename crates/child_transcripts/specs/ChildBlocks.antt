-- The block of a query over a child table. Here g is a sky plan, c a catalogue, t a source table and k the query's number.
use Rattle.std.specs.Prelude.{ℕ, [], ◌++◌, length, Result, Ok, Err}
use Rattle.table_rules.specs.Objects.{Catalogue}
use Rattle.sky_rules.specs.Partition.{Partition}
use Rattle.source_rules.specs.Sources.{SourceTable}
use Rattle.sql_rules.specs.PrintedExprs.{Bytes}
use Rattle.answer_rules.specs.Plans.{plan_of}
use Rattle.child_rules.specs.Children.{child_answer}
use Rattle.session_rules.specs.declared.end.EndKind.{EndKind}
use Rattle.transcript_rules.specs.declared.refusal.Refusal.{Refusal}
use Rattle.transcript_rules.specs.Blocks.{lines_by, number_line, refused_lines}
use Rattle.transcript_rules.specs.Refusals.{Understood}
use Rattle.transcript_rules.specs.Tables.{headings, table_lines}
use Rattle.child_bind_rules.specs.PairColumns.{schemas_of}
use Rattle.child_transcripts.specs.ChildQueries.{child_refusal, child_understood}

-- the lines of a query that binds: its answer over the two flat tables, and the size of its plan
abbrev pub child_answered_lines : Partition → Catalogue → SourceTable → Result Understood Refusal → Bytes
child_answered_lines g c t (Ok u) =
    table_lines (headings c.names u.tree) (child_answer c.objects t.sources u.bound)
    (length (plan_of g c.objects u.bound))
child_answered_lines g c t (Err why) = []

-- the lines of a query with the given end
abbrev pub child_end_lines : Partition → Catalogue → SourceTable → Bytes → EndKind → Bytes
child_end_lines g c t text end =
    lines_by (child_answered_lines g c t (child_understood (schemas_of c.names t.names) text))
    (refused_lines text (child_refusal (schemas_of c.names t.names) text)) end

-- the block of query k, which has this line and this end
unfoldable pub child_block : Partition → Catalogue → SourceTable → ℕ → Bytes → EndKind → Bytes
child_block g c t k text end = number_line k ++ child_end_lines g c t text end
