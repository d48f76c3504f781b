use Rattle.std.proofs.Common.{◌≡◌}
use Rattle.answer_rules.specs.Gather.{gather}
use Rattle.answer_rules.specs.Keys.{key_order}
use Rattle.answer_rules.specs.Parts.{add_own_sums}
use Rattle.partial_groups.specs.Counts.{numbers_counted}
use Rattle.partial_groups.specs.Pruning.{counts_before}
use Rattle.partial_groups.specs.Ungrouped.{row_groups}
use Rattle.partial_groups.proofs.frequent.table_before.Given as goal

abbrev pub invariant-loop-i : goal.invariant-loop-i
invariant-loop-i l = l.table ≡ gather key_order add_own_sums (row_groups l.counted (numbers_counted l.least (counts_before l.cutoff 0 l.counts) l.i))
