use Rattle.std.proofs.Common.{arith}
use Rattle.answer_table.proofs.OneMore.{one_more_of}
use Rattle.partial_groups.proofs.aggregation_table.put_reserved.Goals as goal

pub loop-part-preserved : goal.loop-part-preserved
loop-part-preserved c = record {
  items = one_more_of c.args.tallies.now.items c.loop-part.tallies.items c.push_reserved.new.self.items c.args.parts.now c.loop-part.part-index c.part-item.result c.copy.result c.loop-part-test.true c.part-item.is c.copy.ensures c.push_reserved.ensures.items c.loop-part.invariant.items;
  room = omega (arith, c.loop-part.invariant.room, c.push_reserved.ensures.len, c.push_reserved.ensures.capacity);
}
