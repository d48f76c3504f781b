use Rattle.std.proofs.Common.{◌≡◌, drop, not}
use Rattle.std.specs.List.{find, flat_map}
use Rattle.sky_vector.specs.Numbers.{is_query_number}
use Rattle.answer_rules.specs.Finish.{merged_totals}
use Rattle.partial_groups.specs.Groups.{group_of}
use Rattle.partial_groups.proofs.totals.first_out.Given as goal

abbrev pub invariant-loop-group : goal.invariant-loop-group
invariant-loop-group l =
    find (λ t. not (is_query_number t)) (flat_map (λ m. flat_map (merged_totals (group_of l.tallies m)) l.items) (drop l.group-index l.groups))
    ≡ find (λ t. not (is_query_number t)) (flat_map (λ m. flat_map (merged_totals (group_of l.tallies m)) l.items) l.groups)
