use Rattle.std.proofs.Common.{◌∙◌, ◌<◌, arith, length}
use Rattle.std.proofs.lemmas.List.{length-set}
use Rattle.chunk_filter.proofs.Narrowing.{narrowed_more}
use Rattle.chunk_filter.proofs.Places.{found_at}
use Rattle.chunk_filter.proofs.selection.narrow_all.Goals as goal

pub loop-i-preserved : goal.loop-i-preserved
loop-i-preserved c =
    let there : c.loop-i.i < length c.loop-i.done.items = omega (arith, c.loop-i-test.true, c.loop-i.invariant.count) in
    record {
      count = length-set c.loop-i.done.items c.loop-i.i c.narrow_by.result ∙ c.loop-i.invariant.count;
      narrowed = narrowed_more c.args.conds.now c.args.block.now.objects c.loop-i.done.items c.loop-i.mask c.narrow_by.new.mask c.loop-i.i
          c.index-conds-i.result c.narrow_by.result there
          (found_at c.args.conds.now c.loop-i.i c.index-conds-i.result c.loop-i-test.true c.index-conds-i.is) c.narrow_by.ensures c.loop-i.invariant.narrowed;
    }
