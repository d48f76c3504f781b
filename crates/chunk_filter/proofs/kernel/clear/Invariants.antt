use Rattle.std.proofs.Common.{◌≡◌, ◌<◌, get_or, length, ℕ, false}
use Rattle.chunk_filter.proofs.kernel.clear.Given as goal

abbrev pub invariant-loop-i : goal.invariant-loop-i
invariant-loop-i l = record {
  count : length l.mask ≡ length l.fn.mask;
  cleared : (k : ℕ) → k < l.i → get_or l.mask k false ≡ false;
}
