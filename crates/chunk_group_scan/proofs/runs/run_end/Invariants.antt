use Rattle.std.proofs.Common.{◌≡◌, ◌<◌, ℕ, false, get_or}
use Rattle.chunk_group_scan.proofs.runs.run_end.Given as goal

abbrev pub invariant-loop-j : goal.invariant-loop-j
invariant-loop-j l = (l.fn.from < l.j) × ((k : ℕ) → l.fn.from < k → k < l.j → get_or l.starts k false ≡ false)
