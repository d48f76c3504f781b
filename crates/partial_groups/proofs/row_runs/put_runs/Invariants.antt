use Rattle.std.proofs.Common.{◌≡◌, ◌++◌, ◌-◌, ◌≤◌, length, take}
use Rattle.answer_rules.specs.Gather.{gather}
use Rattle.answer_rules.specs.Keys.{key_order}
use Rattle.answer_rules.specs.Parts.{add_own_sums}
use Rattle.partial_groups.specs.Ungrouped.{row_groups}
use Rattle.partial_groups.proofs.row_runs.put_runs.Given as goal

abbrev pub invariant-loop-from : goal.invariant-loop-from
invariant-loop-from l = record {
  inside : l.from ≤ length l.values;
  table : l.table ≡ gather key_order add_own_sums (l.initial.table ++ row_groups l.counted (take l.from l.values));
}

abbrev pub decreases-loop-from : goal.decreases-loop-from
decreases-loop-from l = length l.values - l.from
