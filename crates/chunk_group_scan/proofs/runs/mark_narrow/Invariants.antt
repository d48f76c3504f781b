use Rattle.std.proofs.Common.{◌≡◌, ◌+◌, ◌<◌, ◌≤◌, ℕ, false, get_or, length, pos}
use Rattle.chunk_group_scan.proofs.runs.mark_narrow.Given as goal

abbrev pub invariant-loop-j : goal.invariant-loop-j
invariant-loop-j l = record {
  len : length l.starts ≡ length l.fn.starts;
  marked : (k : ℕ) → k + 1 < l.j → get_or l.starts (k + 1) false ≡ false
      → (get_or l.fn.starts (k + 1) false ≡ false) × (get_or l.values (get_or l.places (k + 1) 0) (pos 0) ≡ get_or l.values (get_or l.places k 0) (pos 0));
  rest : (k : ℕ) → l.j ≤ k → get_or l.starts k false ≡ get_or l.fn.starts k false;
}
