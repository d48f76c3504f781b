use Rattle.std.proofs.Common.{◌≡◌, ◌*◌, ◌<◌, ◌≤◌, length, get_or, ℕ, pos, false, ◌&&◌}
use Rattle.lane_filter.proofs.narrow.keep_by_narrow.Given as goal

abbrev pub invariant-loop-block : goal.invariant-loop-block
invariant-loop-block g l = record {
  count : length l.mask ≡ length l.values;
  kept : (k : ℕ) → k < 16 * l.block → get_or l.mask k false ≡ (get_or l.fn.mask k false && g.T.WideTest.passes l.test (get_or l.values k (pos 0)));
  rest : (k : ℕ) → 16 * l.block ≤ k → get_or l.mask k false ≡ get_or l.fn.mask k false;
}

abbrev pub invariant-loop-i : goal.invariant-loop-i
invariant-loop-i g l = record {
  count : length l.mask ≡ length l.values;
  kept : (k : ℕ) → k < l.i → get_or l.mask k false ≡ (get_or l.fn.mask k false && g.T.WideTest.passes l.test (get_or l.values k (pos 0)));
  rest : (k : ℕ) → l.i ≤ k → get_or l.mask k false ≡ get_or l.fn.mask k false;
}
