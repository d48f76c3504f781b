use Rattle.std.proofs.Common.{◌≡◌, drop, not}
use Rattle.std.specs.List.{find, flat_map}
use Rattle.sky_vector.specs.Numbers.{is_query_number}
use Rattle.answer_rules.specs.Finish.{merged_totals}
use Rattle.partial_groups.specs.Groups.{group_of}
use Rattle.partial_groups.proofs.totals.first_of.Given as goal

abbrev pub invariant-loop-item : goal.invariant-loop-item
invariant-loop-item l =
    find (λ t. not (is_query_number t)) (flat_map (merged_totals (group_of l.tallies l.group)) (drop l.item-index l.items))
    ≡ find (λ t. not (is_query_number t)) (flat_map (merged_totals (group_of l.tallies l.group)) l.items)
