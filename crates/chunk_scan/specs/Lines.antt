-- What a piece holds of some rows of the table, by the shape of the chunk query.
use Rattle.std.specs.Prelude.{◌≡◌, List, map}
use Rattle.table_rules.specs.Objects.{Obj}
use Rattle.value_rules.specs.Values.{row}
use Rattle.answer_rules.specs.declared.rewritten.ChunkQuery.{ChunkQuery}
use Rattle.answer_rules.specs.Pieces.{PieceView, OfGroups}
use Rattle.answer_rules.specs.Parts.{partials_of}
use Rattle.sql_bound.specs.declared.query.Shape.{Shape}
use Rattle.sql_bound.specs.declared.query.Shape.TheVariants.{Rows, Pairs, Groups}
use Rattle.chunk_row_scan.specs.Lines.{IsOfRowsOver}

-- the piece is of these rows: as rows, or as the aggregate states of their groups
abbrev pub IsPieceBy : Shape → ChunkQuery → List Obj → PieceView → Type 0
IsPieceBy Rows cq objects view = IsOfRowsOver cq objects view
IsPieceBy (Pairs limit) cq objects view = ⊥
IsPieceBy (Groups keys) cq objects view = view ≡ OfGroups (partials_of keys cq.items (map row objects))

-- the piece is of these rows, by the shape of the chunk query
abbrev pub IsPieceOver : ChunkQuery → List Obj → PieceView → Type 0
IsPieceOver cq objects view = IsPieceBy cq.shape cq objects view
