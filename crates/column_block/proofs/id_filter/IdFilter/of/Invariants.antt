use Rattle.std.proofs.Common.{◌≡◌, ℕ, ◌<◌, pos, true, get_or}
use Rattle.column_block.specs.Filters.{may_have}
use Rattle.column_block.proofs.id_filter.IdFilter.of.Given as goal

abbrev pub invariant-loop-i : goal.invariant-loop-i
invariant-loop-i l = (j : ℕ) → j < l.i → may_have l.words.items (get_or l.ids j (pos 0)) ≡ true
