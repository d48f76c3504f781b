use Rattle.std.proofs.Common.{◌≡◌, ◌<◌, ◌≤◌, ℕ, None, Some, get_or, true}
use Rattle.chunk_row_scan.specs.Cutoffs.{is_beyond}
use Rattle.chunk_row_scan.proofs.cutoff.first_descending.Given as goal

abbrev pub invariant-loop-j : goal.invariant-loop-j
invariant-loop-j l =
    (l.fn.from ≤ l.j)
    × ((k : ℕ) → l.fn.from ≤ k → k < l.j → is_beyond true (Some l.cutoff) (get_or l.keys k None) ≡ true)
