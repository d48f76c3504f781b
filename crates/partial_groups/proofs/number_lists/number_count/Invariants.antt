use Rattle.std.proofs.Common.{◌≡◌, ◌-◌, ◌^◌, length, min, take}
use Rattle.partial_groups.specs.Ungrouped.{values_in}
use Rattle.partial_groups.proofs.number_lists.number_count.Given as goal

abbrev pub invariant-loop-list : goal.invariant-loop-list
invariant-loop-list l = l.count ≡ min (length (values_in (take l.list-index l.lists))) (2 ^ 64 - 1)
