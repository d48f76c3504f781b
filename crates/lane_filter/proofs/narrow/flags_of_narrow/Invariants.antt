use Rattle.std.proofs.Common.{◌≡◌, ◌+◌, ◌<◌, length, get_or, ℕ, pos, cond}
use Rattle.lane_filter.proofs.narrow.flags_of_narrow.Given as goal

abbrev pub invariant-loop-j : goal.invariant-loop-j
invariant-loop-j g l = (length l.flags ≡ 16) × ((j : ℕ) → j < l.j → get_or l.flags j (pos 0) ≡ cond (g.T.WideTest.passes l.fn.test (get_or l.fn.values (l.fn.from + j) (pos 0))) (pos 1) (pos 0))
