-- What a piece of rows holds of some rows of the table.
use Rattle.std.specs.Prelude.{◌≡◌, List, map}
use Rattle.table_rules.specs.Objects.{Obj}
use Rattle.value_rules.specs.Values.{row}
use Rattle.answer_rules.specs.declared.rewritten.ChunkQuery.{ChunkQuery}
use Rattle.answer_rules.specs.declared.row.OutRow.{OutRow}
use Rattle.answer_rules.specs.Keeps.{KeepsFirst}
use Rattle.answer_rules.specs.Pieces.{PieceView, OfRows, OfGroups, chunk_lines}
use Rattle.answer_rules.specs.Ranks.{row_order}
use Rattle.answer_rules.specs.Rows.{limit_of, out_row}

-- a row as the chunk query has it, with its sort key
abbrev pub line : ChunkQuery → Obj → OutRow
line cq o = out_row (chunk_lines cq) (row o)

-- the piece is of these rows, in any order; with a LIMIT n it may lack rows that are none of the first n
abbrev pub IsOfRowsOver : ChunkQuery → List Obj → PieceView → Type 0
IsOfRowsOver cq objects (OfRows pushed rows) =
    (pushed ≡ limit_of cq.limit)
    × KeepsFirst row_order (limit_of cq.limit) (map (line cq) objects) rows
IsOfRowsOver cq objects (OfGroups parts) = ⊥
