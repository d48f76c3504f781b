use Rattle.std.proofs.Common.{◌≡◌, ℕ, ◌<◌, pos, true, false, get_or, length}
use Rattle.source_filter.specs.Objects.{flag_number}
use Rattle.source_filter.proofs.id_scan.flags_of.Given as goal

abbrev pub invariant-loop-k : goal.invariant-loop-k
invariant-loop-k l = (length l.flags ≡ 4096) × ((j : ℕ) → j < l.k → get_or l.flags (flag_number (get_or l.ids j (pos 0))) false ≡ true)
