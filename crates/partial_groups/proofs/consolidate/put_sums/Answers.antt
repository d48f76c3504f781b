use Rattle.std.proofs.Common.{◌≡◌, ◌++◌, ◌+◌, List, take, slice_range, ap, arith, subst, sym, ◌∙◌}
use Rattle.answer_rules.specs.Parts.{Part, add_own_parts}
use Rattle.partial_groups.specs.Adding.{MayAdd, part_in}
use Rattle.partial_groups.proofs.Summing.{all_sums, may_add_at, one_sum_more}
use Rattle.partial_groups.proofs.consolidate.put_sums.Goals as goal

pub sum_at-sum-requires-clause-small : goal.sum_at-sum-requires-clause-small
sum_at-sum-requires-clause-small c =
    subst (λ (parts : List Part). MayAdd (part_in c.args.tallies.now.items (c.args.a + c.loop-i.i)) (part_in parts (c.args.b + c.loop-i.i))) (sym c.loop-i.invariant.items)
    (may_add_at c.args.tallies.now.items c.args.fresh.now.items _ c.args.a c.args.b c.args.width c.loop-i.i c.loop-i-test.true c.requires.a_there c.requires.b_there c.requires.small)

pub loop-i-preserved : goal.loop-i-preserved
loop-i-preserved c = record {
  items = one_sum_more c.args.tallies.now.items c.args.fresh.now.items c.loop-i.fresh.items c.push_reserved.new.self.items c.args.a c.args.b c.args.width c.loop-i.i c.sum_at-sum.result c.loop-i-test.true c.requires.a_there c.requires.b_there c.loop-i.invariant.items c.sum_at-sum.ensures c.push_reserved.ensures.items;
  long = omega (arith, c.loop-i.invariant.long, c.push_reserved.ensures.len);
  capacity = c.push_reserved.ensures.capacity ∙ c.loop-i.invariant.capacity;
}

pub returns-clause-items : goal.returns-clause-items
returns-clause-items c =
    let end : c.loop-i.i ≡ c.args.width = omega (arith, c.loop-i-test.false, c.loop-i.auto.i-end) in
    c.loop-i.invariant.items ∙ ap (λ n. c.args.fresh.now.items ++ take n (add_own_parts (slice_range c.args.tallies.now.items c.args.a (c.args.a + c.args.width)) (slice_range c.args.fresh.now.items c.args.b (c.args.b + c.args.width)))) end
    ∙ ap (λ l. c.args.fresh.now.items ++ l) (all_sums c.args.tallies.now.items c.args.fresh.now.items c.args.a c.args.b c.args.width c.requires.a_there c.requires.b_there)

pub returns-clause-long : goal.returns-clause-long
returns-clause-long c = omega (arith, c.loop-i-test.false, c.loop-i.auto.i-end, c.loop-i.invariant.long)
