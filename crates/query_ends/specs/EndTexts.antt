-- The text of a query's end. Here names are those of the extra columns, k is the query's number and text its line.
use Rattle.std.specs.Prelude.{ℕ, List, ◌++◌, codes, zip}
use Rattle.sql_rules.specs.PrintedExprs.{Bytes}
use Rattle.session_script.specs.Views.{ScriptView, query_lines}
use Rattle.transcript_rules.specs.Blocks.{blocks_by, number_line}
use Rattle.transcript_rules.specs.RefusalLines.{line, refusal_line}
use Rattle.transcript_rules.specs.Tables.{headings, table_lines}
use Rattle.query_ends.specs.declared.end.End.{End}
use Rattle.query_ends.specs.declared.end.End.TheVariants.{Answered, Refused, Cancelled, Spent}

-- the lines of a query with this end
abbrev pub end_lines : List Bytes → Bytes → End → Bytes
end_lines names text (Answered head table chunks) = table_lines (headings names head) table chunks
end_lines names text (Refused why) = refusal_line text why
end_lines names text Cancelled = line (codes "cancelled")
end_lines names text Spent = line (codes "out of memory")

-- the block of a query with this end
abbrev pub end_block : List Bytes → ℕ → Bytes → End → Bytes
end_block names k text end = number_line k ++ end_lines names text end

-- the blocks of a script whose queries have these ends, numbered from 1
abbrev pub end_blocks : List Bytes → ScriptView → List End → List Bytes
end_blocks names s ends = blocks_by (λ k query. end_block names k query.0 query.1) 1 (zip (query_lines s) ends)
