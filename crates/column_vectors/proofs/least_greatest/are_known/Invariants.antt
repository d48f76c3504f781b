use Rattle.std.proofs.Common.{◌≡◌, ◌<◌, ◌≤◌, ℕ, true, false, get_or}
use Rattle.column_vectors.proofs.least_greatest.are_known.Given as goal

abbrev pub invariant-loop-i : goal.invariant-loop-i
invariant-loop-i l = l.all ≡ true → (k : ℕ) → l.from ≤ k → k < l.i → get_or l.known k false ≡ true
