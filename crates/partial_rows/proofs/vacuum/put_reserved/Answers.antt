use Rattle.std.proofs.Common.{arith}
use Rattle.answer_table.proofs.OneMore.{one_more_of}
use Rattle.partial_rows.proofs.vacuum.put_reserved.Goals as goal

pub loop-value-preserved : goal.loop-value-preserved
loop-value-preserved c = record {
  items = one_more_of c.args.cells.now.items c.loop-value.cells.items c.push_reserved.new.self.items c.args.values.now c.loop-value.value-index c.value-item.result c.copy.result c.loop-value-test.true c.value-item.is c.copy.ensures c.push_reserved.ensures.items c.loop-value.invariant.items;
  room = omega (arith, c.loop-value.invariant.room, c.push_reserved.ensures.len, c.push_reserved.ensures.capacity);
}
