-- Partial results of child queries: what a child query finds in some chunks.
use Rattle.std.specs.Prelude.{◌≡◌, ℕ, List, map, None}
use Rattle.std.specs.List.Sorted.{IsPermutation}
use Rattle.table_rules.specs.Objects.{Obj}
use Rattle.sky_rules.specs.Partition.{Partition}
use Rattle.source_rules.specs.Sources.{Source}
use Rattle.sql_bound.specs.declared.query.Bound.{Bound}
use Rattle.value_rules.specs.Values.{Pick}
use Rattle.answer_rules.specs.declared.row.OutRow.{OutRow}
use Rattle.answer_rules.specs.Pieces.{PieceView, OfRows, OfGroups}
use Rattle.answer_rules.specs.Rows.{bound_lines, out_row}
use Rattle.child_rules.specs.Children.{child_found}

-- the rows that a query computes of these pairs
abbrev pub rows_of_picks : Bound → List Pick → List OutRow
rows_of_picks q ps = map (out_row (bound_lines q)) ps

-- the rows that a child query finds in these chunks, in the order of the two tables
abbrev pub child_lines : Partition → List Obj → List Source → Bound → List ℕ → List OutRow
child_lines g table sources q chunks = rows_of_picks q (child_found g table sources q.conds chunks)

-- the partial result has these rows, in any order, and no limit
abbrev pub HasAllRows : List OutRow → PieceView → Type 0
HasAllRows all (OfRows pushed rows) = (pushed ≡ None) × IsPermutation all rows
HasAllRows all (OfGroups parts) = ⊥

-- the partial result is right: it has all rows that the child query finds in these chunks
abbrev pub ChildFor : Partition → List Obj → List Source → Bound → List ℕ → PieceView → Type 0
ChildFor g table sources q chunks view = HasAllRows (child_lines g table sources q chunks) view
