use Rattle.std.proofs.Common.{◌≡◌, ◌<◌, ◌≤◌, ℕ, length, get_or, false, ◌&&◌, not}
use Rattle.column_vectors.proofs.mask.without.Given as goal

abbrev pub invariant-loop-i : goal.invariant-loop-i
invariant-loop-i l = record {
  count : length l.mask ≡ length l.fn.mask;
  joined : (k : ℕ) → k < l.i → get_or l.mask k false ≡ (get_or l.fn.mask k false && not (get_or l.other k false));
  rest : (k : ℕ) → l.i ≤ k → get_or l.mask k false ≡ get_or l.fn.mask k false;
}
