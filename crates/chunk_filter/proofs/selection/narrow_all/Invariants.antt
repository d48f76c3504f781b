use Rattle.std.proofs.Common.{◌≡◌, length}
use Rattle.chunk_filter.specs.Selection.{IsNarrowed}
use Rattle.chunk_filter.proofs.selection.narrow_all.Given as goal

abbrev pub invariant-loop-i : goal.invariant-loop-i
invariant-loop-i l = record {
  count : length l.done.items ≡ length l.conds;
  narrowed : IsNarrowed l.conds l.block.objects l.done.items l.mask;
}
