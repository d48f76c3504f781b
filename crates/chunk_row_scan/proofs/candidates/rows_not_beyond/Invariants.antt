use Rattle.std.proofs.Common.{◌≡◌, ◌-◌, ◌<◌, ◌≤◌, count_by, length, take}
use Rattle.std.specs.Prelude.{All}
use Rattle.sky_row.specs.Columns.{objects_at}
use Rattle.chunk_row_scan.specs.Candidates.{LackOnlyBeyond, is_row_up_to}
use Rattle.chunk_row_scan.proofs.candidates.rows_not_beyond.Given as goal

abbrev pub invariant-loop-i : goal.invariant-loop-i
invariant-loop-i l = record {
  inside : l.i ≤ length l.places;
  few : l.numbers ≤ l.i;
  there : All (λ place. place < length l.block.objects) l.listed.items;
  all : LackOnlyBeyond l.query l.cutoff (objects_at l.block.objects (take l.i l.places)) (objects_at l.block.objects l.listed.items);
  numbers : l.numbers ≡ count_by (is_row_up_to l.query l.cutoff) (objects_at l.block.objects l.listed.items);
}

abbrev pub decreases-loop-i : goal.decreases-loop-i
decreases-loop-i l = length l.places - l.i
