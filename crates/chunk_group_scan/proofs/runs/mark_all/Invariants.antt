use Rattle.std.proofs.Common.{◌≡◌, length, take}
use Rattle.sky_row.specs.Columns.{objects_at}
use Rattle.chunk_group_scan.specs.Runs.{AreStarts}
use Rattle.chunk_group_scan.proofs.runs.mark_all.Given as goal

abbrev pub invariant-loop-key : goal.invariant-loop-key
invariant-loop-key l = record {
  len : length l.starts ≡ length l.places;
  are : AreStarts (take l.key-index l.keys) (objects_at l.block.objects l.places) l.starts;
}
