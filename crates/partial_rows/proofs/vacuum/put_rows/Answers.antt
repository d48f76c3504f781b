use Rattle.std.proofs.Common.{map}
use Rattle.partial_rows.specs.Rows.{row_of}
use Rattle.partial_rows.proofs.Vacuuming.{one_row_more, one_row_there}
use Rattle.partial_rows.proofs.vacuum.put_rows.Goals as goal

pub loop-other-preserved : goal.loop-other-preserved
loop-other-preserved c = record {
  same = one_row_more c.args.cells.now c.loop-other.live.items c.put_row.new.live.items (map (row_of c.args.live.now.items) c.args.rows.now.items) c.loop-other.rows.items c.put_row.new.rows.items c.args.others.now c.loop-other.other-index _ c.loop-other-test.true c.requires.there c.loop-other.invariant.mine c.in_ok-put_row.ensures.cells c.in_ok-put_row.ensures.rows c.loop-other.invariant.same;
  mine = one_row_there c.args.cells.now c.loop-other.live.items c.put_row.new.live.items c.loop-other.rows.items c.put_row.new.rows.items c.args.others.now c.loop-other.other-index _ c.loop-other-test.true c.requires.there c.loop-other.invariant.mine c.in_ok-put_row.ensures.cells c.in_ok-put_row.ensures.rows;
}
