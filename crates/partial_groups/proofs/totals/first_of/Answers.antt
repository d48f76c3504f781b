use Rattle.std.proofs.Common.{not, arith, sym, ◌∙◌}
use Rattle.sky_vector.specs.Numbers.{is_query_number}
use Rattle.answer_rules.specs.Finish.{merged_totals}
use Rattle.partial_groups.specs.Groups.{group_of}
use Rattle.partial_groups.proofs.Totalling.{none_here, none_left, some_here}
use Rattle.partial_groups.proofs.totals.first_of.Goals as goal

pub loop-item-preserved : goal.loop-item-preserved
loop-item-preserved c =
    none_here (λ t. not (is_query_number t)) (merged_totals (group_of c.args.tallies.now c.args.group.now)) c.args.items.now c.loop-item.item-index c.item-item.result c.out_of-out.result _ c.loop-item-test.true c.item-item.is c.out_of-out.ensures (sym c.is_some.ensures ∙ c.if-is_some.false) c.loop-item.invariant

pub returns-then-is_some : goal.returns-then-is_some
returns-then-is_some c =
    some_here (λ t. not (is_query_number t)) (merged_totals (group_of c.args.tallies.now c.args.group.now)) c.args.items.now c.loop-item.item-index c.item-item.result c.out_of-out.result _ c.loop-item-test.true c.item-item.is c.out_of-out.ensures (sym c.is_some.ensures ∙ c.if-is_some.true) c.loop-item.invariant

pub returns : goal.returns
returns c =
    none_left (λ t. not (is_query_number t)) (merged_totals (group_of c.args.tallies.now c.args.group.now)) c.args.items.now c.loop-item.item-index _ (omega (arith, c.loop-item-test.false, c.loop-item.auto.item-index-end)) c.loop-item.invariant
