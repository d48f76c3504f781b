use Rattle.std.proofs.Common.{◌≡◌, ◌+◌, ◌<◌, ◌≤◌, length, get_or, ℕ, pos, false, ◌&&◌}
use Rattle.lane_filter.proofs.narrow.keep_block_narrow.Given as goal

abbrev pub invariant-loop-j : goal.invariant-loop-j
invariant-loop-j g l = record {
  count : length l.mask ≡ length l.fn.mask;
  before : (k : ℕ) → k < l.fn.from → get_or l.mask k false ≡ get_or l.fn.mask k false;
  kept : (k : ℕ) → l.fn.from ≤ k → k < l.fn.from + l.j → get_or l.mask k false ≡ (get_or l.fn.mask k false && g.T.WideTest.passes l.fn.test (get_or l.fn.values k (pos 0)));
  rest : (k : ℕ) → l.fn.from + l.j ≤ k → get_or l.mask k false ≡ get_or l.fn.mask k false;
}
