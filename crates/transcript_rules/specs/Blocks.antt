-- The block of a query in a transcript. Here g is a sky plan, c a catalogue and k the query's number.
use Rattle.std.specs.Prelude.{ℕ, ◌+◌, List, [], ◌∷◌, ◌++◌, length, Option, None, Some, Result, Ok, Err, codes}
use Rattle.std.specs.Fmt.{decimal}
use Rattle.table_rules.specs.Objects.{Catalogue}
use Rattle.sky_rules.specs.Partition.{Partition}
use Rattle.sql_rules.specs.PrintedExprs.{Bytes}
use Rattle.answer_rules.specs.Answers.{Answer, flat_answer}
use Rattle.answer_rules.specs.Plans.{plan_of}
use Rattle.session_rules.specs.declared.end.EndKind.{EndKind}
use Rattle.session_rules.specs.declared.end.EndKind.TheVariants.{Answered, Refused, Cancelled, Spent}
use Rattle.transcript_rules.specs.declared.refusal.Refusal.{Refusal}
use Rattle.transcript_rules.specs.Refusals.{Understood, understood, refusal_of}
use Rattle.transcript_rules.specs.RefusalLines.{line, refusal_line}
use Rattle.transcript_rules.specs.Tables.{headings, table_lines}

-- `query K`
abbrev pub number_line : ℕ → Bytes
number_line k = line (codes "query " ++ decimal k)

-- the lines of an answer; an answer that is a total out of range has no lines
abbrev pub answer_lines : List Bytes → Answer → ℕ → Bytes
answer_lines headings (Ok rows) chunks = table_lines headings rows chunks
answer_lines headings (Err total) chunks = []

-- the lines of a query that binds: its answer over the flat table, and the size of its plan
abbrev pub answered_lines : Partition → Catalogue → Result Understood Refusal → Bytes
answered_lines g c (Ok u) =
    answer_lines (headings c.names u.tree) (flat_answer c.objects u.bound) (length (plan_of g c.objects u.bound))
answered_lines g c (Err why) = []

-- the line of a refusal, if there is one
abbrev pub refused_lines : Bytes → Option Refusal → Bytes
refused_lines text None = []
refused_lines text (Some why) = refusal_line text why

-- the lines of a query with the given end, if these are the lines of its answer and of its refusal
abbrev pub lines_by : (answered refused : Bytes) → EndKind → Bytes
lines_by answered refused Answered = answered
lines_by answered refused Refused = refused
lines_by answered refused Cancelled = line (codes "cancelled")
lines_by answered refused Spent = line (codes "out of memory")

-- the lines of a query with the given end
abbrev pub end_lines : Partition → Catalogue → Bytes → EndKind → Bytes
end_lines g c text end =
    lines_by (answered_lines g c (understood c.names text)) (refused_lines text (refusal_of g c text)) end

-- the block of query k, which has this line and this end
unfoldable pub block : Partition → Catalogue → ℕ → Bytes → EndKind → Bytes
block g c k text end = number_line k ++ end_lines g c text end

-- the blocks of queries, each written by its number and what is known of the query; the first query has number k
abbrev pub blocks_by : {X : Type 0} → (ℕ → X → Bytes) → ℕ → List X → List Bytes
blocks_by block_of k [] = []
blocks_by block_of k (x ∷ xs) = block_of k x ∷ blocks_by block_of (k + 1) xs
