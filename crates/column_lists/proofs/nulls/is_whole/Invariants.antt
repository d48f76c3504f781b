use Rattle.std.proofs.Common.{◌≡◌, ◌<◌, ◌≤◌, ℕ, true, get_or}
use Rattle.column_lists.proofs.nulls.is_whole.Given as goal

abbrev pub invariant-loop-k : goal.invariant-loop-k
invariant-loop-k l = (k : ℕ) → l.fn.from ≤ k → k < l.k → get_or l.present (get_or l.places k 0) true ≡ true
