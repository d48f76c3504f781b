use Rattle.std.proofs.Common.{◌≡◌, ◌<◌, ◌≤◌, get_or, ℕ, false, not, ◌&&◌}
use Rattle.chunk_filter.proofs.kernel.keep_absent.Given as goal

abbrev pub invariant-loop-i : goal.invariant-loop-i
invariant-loop-i l =
    ((k : ℕ) → k < l.i → get_or l.mask k false ≡ (get_or l.fn.mask k false && not (get_or l.present k false)))
    × ((k : ℕ) → l.i ≤ k → get_or l.mask k false ≡ get_or l.fn.mask k false)
