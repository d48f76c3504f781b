use Rattle.std.proofs.Common.{◌≡◌, ℕ, ◌<◌, pos, false, get_or}
use Rattle.source_filter.proofs.id_scan.has_one.Given as goal

abbrev pub invariant-loop-k : goal.invariant-loop-k
invariant-loop-k g l = l.has ≡ false → (j : ℕ) → j < l.k → g.T.IdTest.passes l.test (get_or l.block j (pos 0)) ≡ false
