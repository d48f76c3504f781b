use Rattle.std.proofs.Common.{not, ap, arith, sym, ◌∙◌}
use Rattle.std.specs.List.{find, flat_map}
use Rattle.sky_vector.specs.Numbers.{is_query_number}
use Rattle.answer_rules.specs.Finish.{merged_totals}
use Rattle.partial_groups.specs.Groups.{group_of}
use Rattle.partial_groups.proofs.Totalling.{none_here, none_left, some_here, totals_by_group_entry}
use Rattle.partial_groups.proofs.totals.first_out.Goals as goal

pub loop-group-preserved : goal.loop-group-preserved
loop-group-preserved c =
    none_here (λ t. not (is_query_number t)) (λ m. flat_map (merged_totals (group_of c.args.tallies.now m)) c.args.items.now) c.args.groups.now c.loop-group.group-index c.group-item.result c.first_of-out.result _ c.loop-group-test.true c.group-item.is c.first_of-out.ensures (sym c.is_some.ensures ∙ c.if-is_some.false) c.loop-group.invariant

pub returns-then-is_some : goal.returns-then-is_some
returns-then-is_some c =
    some_here (λ t. not (is_query_number t)) (λ m. flat_map (merged_totals (group_of c.args.tallies.now m)) c.args.items.now) c.args.groups.now c.loop-group.group-index c.group-item.result c.first_of-out.result _ c.loop-group-test.true c.group-item.is c.first_of-out.ensures (sym c.is_some.ensures ∙ c.if-is_some.true) c.loop-group.invariant
    ∙ sym (ap (find (λ t. not (is_query_number t))) (totals_by_group_entry c.args.items.now c.args.tallies.now c.args.groups.now))

pub returns : goal.returns
returns c =
    none_left (λ t. not (is_query_number t)) (λ m. flat_map (merged_totals (group_of c.args.tallies.now m)) c.args.items.now) c.args.groups.now c.loop-group.group-index _ (omega (arith, c.loop-group-test.false, c.loop-group.auto.group-index-end)) c.loop-group.invariant
    ∙ sym (ap (find (λ t. not (is_query_number t))) (totals_by_group_entry c.args.items.now c.args.tallies.now c.args.groups.now))
