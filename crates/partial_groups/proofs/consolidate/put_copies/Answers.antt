use Rattle.std.proofs.Common.{◌≡◌, ◌++◌, ◌+◌, take, slice_range, ap, arith, ◌∙◌}
use Rattle.partial_groups.proofs.Summing.{all_parts, one_part_more}
use Rattle.partial_groups.proofs.consolidate.put_copies.Goals as goal

pub loop-i-preserved : goal.loop-i-preserved
loop-i-preserved c = record {
  items = one_part_more c.args.tallies.now.items c.args.fresh.now.items c.loop-i.fresh.items c.push_reserved.new.self.items c.args.from c.args.width c.loop-i.i c.copy_at-part.result c.loop-i-test.true c.requires.there c.loop-i.invariant.items c.copy_at-part.ensures c.push_reserved.ensures.items;
  long = omega (arith, c.loop-i.invariant.long, c.push_reserved.ensures.len);
  capacity = c.push_reserved.ensures.capacity ∙ c.loop-i.invariant.capacity;
}

pub returns-clause-items : goal.returns-clause-items
returns-clause-items c =
    let end : c.loop-i.i ≡ c.args.width = omega (arith, c.loop-i-test.false, c.loop-i.auto.i-end) in
    c.loop-i.invariant.items ∙ ap (λ n. c.args.fresh.now.items ++ take n (slice_range c.args.tallies.now.items c.args.from (c.args.from + c.args.width))) end
    ∙ ap (λ l. c.args.fresh.now.items ++ l) (all_parts c.args.tallies.now.items c.args.from c.args.width c.requires.there)

pub returns-clause-long : goal.returns-clause-long
returns-clause-long c = omega (arith, c.loop-i-test.false, c.loop-i.auto.i-end, c.loop-i.invariant.long)
