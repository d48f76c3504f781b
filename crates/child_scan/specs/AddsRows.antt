-- What a step of a scan adds to the piece.
use Rattle.std.specs.Prelude.{List, ◌++◌}
use Rattle.answer_rules.specs.declared.row.OutRow.{OutRow}
use Rattle.answer_rules.specs.Pieces.{PieceView}
use Rattle.child_rules.specs.ChildPieces.{HasAllRows}

-- the new piece has these rows, and all that the old piece had
abbrev pub AddsRows : List OutRow → PieceView → PieceView → Type 0
AddsRows more old new = (all : List OutRow) → HasAllRows all old → HasAllRows (all ++ more) new
