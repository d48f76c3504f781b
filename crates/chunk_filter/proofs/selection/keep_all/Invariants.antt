use Rattle.std.proofs.Common.{◌≡◌, ◌<◌, drop, filter, length}
use Rattle.std.specs.Prelude.{All}
use Rattle.chunk_filter.specs.Selection.{AreDone, meets_at}
use Rattle.chunk_filter.proofs.selection.keep_all.Given as goal

abbrev pub invariant-loop-i : goal.invariant-loop-i
invariant-loop-i l = record {
  rest : filter (meets_at (drop l.i l.conds) l.block.objects) l.places.items ≡ filter (meets_at l.conds l.block.objects) l.fn.places.items;
  there : All (λ place. place < length l.block.objects) l.places.items;
  done : AreDone l.conds l.block.objects l.done l.places.items;
}
