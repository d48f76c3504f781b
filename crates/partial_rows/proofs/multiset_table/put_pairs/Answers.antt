use Rattle.partial_rows.specs.Multisets.{rows_in}
use Rattle.partial_rows.specs.Pairs.{pair_row}
use Rattle.partial_rows.proofs.CompactRows.{one_more_put}
use Rattle.partial_rows.proofs.multiset_table.put_pairs.Goals as goal

pub loop-pair-preserved : goal.loop-pair-preserved
loop-pair-preserved c = record {
  mine = c.put_pair.ensures.mine;
  all = c.put_pair.ensures.all;
  put = one_more_put pair_row (rows_in c.args.cells.now.items c.args.buffer.now) (rows_in c.loop-pair.cells.items c.loop-pair.buffer) (rows_in c.put_pair.new.cells.items c.put_pair.new.buffer) c.args.pairs.now c.loop-pair.pair-index _ c.loop-pair-test.true c.loop-pair.invariant.put c.in_ok-put_pair.ensures.put;
}
