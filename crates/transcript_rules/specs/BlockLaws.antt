-- The content of a single block by the end of its query, and of an explain block.
use Rattle.std.specs.Prelude.{◌≡◌, ◌↔◌, ℕ, ◌+◌, ◌<◌, false, List, [], ◌++◌, length, None, Some, Ok, codes}
use Rattle.table_rules.specs.Objects.{Catalogue}
use Rattle.sky_rules.specs.Partition.{Partition}
use Rattle.sql_rules.specs.PrintedExprs.{Bytes}
use Rattle.sql_tree.specs.declared.query.Query.{Query}
use Rattle.sql_bound.specs.declared.query.Bound.{Bound}
use Rattle.value_rules.specs.Sound.{IsSound}
use Rattle.bind_rules.specs.Binding.{bound_of}
use Rattle.answer_rules.specs.Answers.{flat_answer}
use Rattle.answer_rules.specs.Plans.{plan_of}
use Rattle.answer_rules.specs.ChunkQueries.{chunk_query_of}
use Rattle.answer_rules.specs.Rewriting.{columns_of, merge_plan_of}
use Rattle.answer_rules.specs.declared.value.Value.{Value}
use Rattle.session_rules.specs.Ends.{has_work}
use Rattle.session_rules.specs.declared.end.EndKind.TheVariants.{Answered, Refused, Cancelled, Spent}
use Rattle.transcript_rules.specs.declared.refusal.Refusal.{Refusal}
use Rattle.transcript_rules.specs.Refusals.{Understood, understood, early_refusal, refusal_of}
use Rattle.transcript_rules.specs.RefusalLines.{line, refusal_line}
use Rattle.transcript_rules.specs.Tables.{headings, table_lines}
use Rattle.transcript_rules.specs.Blocks.{number_line, block}
use Rattle.transcript_rules.specs.Transcripts.{judged_of}
use Rattle.transcript_rules.specs.ColumnNames.{id_count}
use Rattle.transcript_rules.specs.ChunkLines.{chunk_line, chunk_order_names, chunk_texts}
use Rattle.transcript_rules.specs.MergeLines.{merge_line, merge_order_texts}
use Rattle.transcript_rules.specs.Explained.{chunks_line, explain_block}

-- the block of a query that binds, has an answer and ends answered is its answer's table, under the headings of its
-- tree and with the size of its plan
abbrev pub AnsweredIsItsTable : Type 0
AnsweredIsItsTable =
    (g : Partition) (c : Catalogue) (k : ℕ) (text : Bytes) (u : Understood) (rows : List (List Value))
    → understood c.names text ≡ Ok u → flat_answer c.objects u.bound ≡ Ok rows
    → block g c k text Answered
    ≡ number_line k ++ table_lines (headings c.names u.tree) rows (length (plan_of g c.objects u.bound))

-- the block of a query that is refused and ends refused is the line of its refusal
abbrev pub RefusedIsItsLine : Type 0
RefusedIsItsLine =
    (g : Partition) (c : Catalogue) (k : ℕ) (text : Bytes) (why : Refusal) → refusal_of g c text ≡ Some why
    → block g c k text Refused ≡ number_line k ++ refusal_line text why

-- the block of a query that ends cancelled is this line, whatever the query is
abbrev pub CancelledIsItsLine : Type 0
CancelledIsItsLine =
    (g : Partition) (c : Catalogue) (k : ℕ) (text : Bytes)
    → block g c k text Cancelled ≡ number_line k ++ line (codes "cancelled")

-- the block of a query that ends out of memory is this line, whatever the query is
abbrev pub SpentIsItsLine : Type 0
SpentIsItsLine =
    (g : Partition) (c : Catalogue) (k : ℕ) (text : Bytes)
    → block g c k text Spent ≡ number_line k ++ line (codes "out of memory")

-- the explain block of a query that binds and is not refused before it is run is its three lines
abbrev pub ExplainedIsItsPlan : Type 0
ExplainedIsItsPlan =
    (g : Partition) (c : Catalogue) (k : ℕ) (text : Bytes) (u : Understood) → understood c.names text ≡ Ok u
    → early_refusal g c text ≡ None
    → explain_block g c k text
    ≡ number_line k ++ (chunk_line c.names u.tree (chunk_query_of u.bound)
    ++ (merge_line (merge_plan_of u.bound) ++ chunks_line (plan_of g c.objects u.bound)))

-- the explain block of a query that is refused before it is run is the line of its refusal
abbrev pub ExplainedIsItsRefusal : Type 0
ExplainedIsItsRefusal =
    (g : Partition) (c : Catalogue) (k : ℕ) (text : Bytes) (why : Refusal) → early_refusal g c text ≡ Some why
    → explain_block g c k text ≡ number_line k ++ refusal_line text why

-- a query has work exactly if it is not refused before it is run and its plan has chunks
abbrev pub WorkIsAPlan : Type 0
WorkIsAPlan =
    (g : Partition) (c : Catalogue) (text : Bytes) (u : Understood) → understood c.names text ≡ Ok u
    → early_refusal g c text ≡ None
    → (has_work (judged_of g c text) ≡ false) ↔ (plan_of g c.objects u.bound ≡ [])

-- a chunk query of rows or pairs is limited in the order of the merge
abbrev pub LimitedInTheMergesOrder : Type 0
LimitedInTheMergesOrder =
    (columns : ℕ) (b : Bound) → IsSound columns b → 0 < id_count b.shape
    → chunk_order_names (chunk_query_of b) ≡ merge_order_texts (merge_plan_of b)

-- a chunk query is printed with one text for each of its columns c1, c2 and so on
abbrev pub OneTextEach : Type 0
OneTextEach =
    (names : List Bytes) (q : Query) (b : Bound) → bound_of names q ≡ Ok b
    → length (chunk_texts names q b.shape) ≡ length (columns_of (chunk_query_of b) b.shape)
