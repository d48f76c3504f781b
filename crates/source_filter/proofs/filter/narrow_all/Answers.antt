use Rattle.std.proofs.Common.{sym}
use Rattle.source_filter.proofs.Narrowing.{found_at, narrowed_more}
use Rattle.source_filter.proofs.filter.narrow_all.Goals as goal

pub narrow_by-requires-clause-count : goal.narrow_by-requires-clause-count
narrow_by-requires-clause-count c = sym c.loop-i.invariant.count

pub loop-i-preserved : goal.loop-i-preserved
loop-i-preserved c =
    narrowed_more c.args.conds.now c.args.lists.now c.loop-i.mask c.narrow_by.new.mask c.loop-i.i c.index-conds-i.result
    (found_at c.args.conds.now c.loop-i.i c.index-conds-i.result c.loop-i-test.true c.index-conds-i.is) c.narrow_by.ensures c.loop-i.invariant
