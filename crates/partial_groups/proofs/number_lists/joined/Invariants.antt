use Rattle.std.proofs.Common.{◌≡◌, take}
use Rattle.partial_groups.specs.Ungrouped.{values_in}
use Rattle.partial_groups.proofs.number_lists.joined.Given as goal

abbrev pub invariant-loop-list : goal.invariant-loop-list
invariant-loop-list l = l.values.items ≡ values_in (take l.list-index l.fn.lists.items)
