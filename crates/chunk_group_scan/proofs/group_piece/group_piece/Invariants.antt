use Rattle.std.proofs.Common.{◌≡◌, ◌-◌, ◌≤◌, length, map, take}
use Rattle.sky_row.specs.Columns.{objects_at}
use Rattle.value_rules.specs.Values.{row}
use Rattle.answer_rules.specs.Parts.{partials_of}
use Rattle.answer_rules.specs.Pieces.{OfGroups}
use Rattle.chunk_group_scan.proofs.group_piece.group_piece.Given as goal

abbrev pub invariant-loop-from : goal.invariant-loop-from
invariant-loop-from l = record {
  inside : l.from ≤ length l.places;
  piece : l.piece ≡ OfGroups (partials_of l.keys l.query.items (map row (take l.from (objects_at l.block.objects l.places))));
}

abbrev pub decreases-loop-from : goal.decreases-loop-from
decreases-loop-from l = length l.places - l.from
