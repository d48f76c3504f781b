-- The explain text of a script: for each query the chunk query, the merge and the chunks, with nothing run.
use Rattle.std.specs.Prelude.{ℕ, List, [], ◌++◌, Option, None, Some, Result, Ok, Err, codes}
use Rattle.std.specs.Fmt.{decimal}
use Rattle.std.specs.List.{flat_map}
use Rattle.table_rules.specs.Objects.{Catalogue}
use Rattle.sky_rules.specs.Partition.{Partition}
use Rattle.sql_rules.specs.PrintedExprs.{Bytes}
use Rattle.answer_rules.specs.Plans.{plan_of}
use Rattle.answer_rules.specs.ChunkQueries.{chunk_query_of}
use Rattle.answer_rules.specs.Rewriting.{merge_plan_of}
use Rattle.session_script.specs.Views.{ScriptView, query_lines}
use Rattle.transcript_rules.specs.declared.refusal.Refusal.{Refusal}
use Rattle.transcript_rules.specs.Refusals.{Understood, understood, early_refusal}
use Rattle.transcript_rules.specs.RefusalLines.{line, refusal_line}
use Rattle.transcript_rules.specs.Blocks.{blocks_by, number_line}
use Rattle.text_rules.specs.Readings.{joined}
use Rattle.transcript_rules.specs.ChunkLines.{chunk_line}
use Rattle.transcript_rules.specs.MergeLines.{merge_line}

-- the chunks of a plan, each after a space
abbrev pub chunks_line : List ℕ → Bytes
chunks_line chunks = line (codes "chunks:" ++ flat_map (λ c. codes " " ++ decimal c) chunks)

-- the three lines of a query that binds
abbrev pub plan_lines : Partition → Catalogue → Result Understood Refusal → Bytes
plan_lines g c (Ok u) =
    chunk_line c.names u.tree (chunk_query_of u.bound)
    ++ (merge_line (merge_plan_of u.bound) ++ chunks_line (plan_of g c.objects u.bound))
plan_lines g c (Err why) = []

-- the line of a refusal before the query is run, or else the three lines
abbrev pub explain_lines : Partition → Catalogue → Bytes → Option Refusal → Bytes
explain_lines g c text (Some why) = refusal_line text why
explain_lines g c text None = plan_lines g c (understood c.names text)

-- the explain block of query k, which has this line
unfoldable pub explain_block : Partition → Catalogue → ℕ → Bytes → Bytes
explain_block g c k text = number_line k ++ explain_lines g c text (early_refusal g c text)

-- the explain blocks of these queries, the first of which has this number
abbrev pub explain_blocks_from : Partition → Catalogue → ℕ → List Bytes → List Bytes
explain_blocks_from g c k texts = blocks_by (explain_block g c) k texts

-- the explain blocks of the queries of a script, numbered from 1
abbrev pub explain_blocks_of : Partition → Catalogue → ScriptView → List Bytes
explain_blocks_of g c s = explain_blocks_from g c 1 (query_lines s)

-- the explain text of a script, over a sky plan and a catalogue
unfoldable pub explained : Partition → Catalogue → ScriptView → Bytes
explained g c s = joined (explain_blocks_of g c s)
