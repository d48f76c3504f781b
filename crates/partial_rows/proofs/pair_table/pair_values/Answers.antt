use Rattle.partial_rows.specs.Pairs.{pair_values}
use Rattle.partial_rows.proofs.Pairs.{one_more_flat}
use Rattle.partial_rows.proofs.pair_table.pair_values.Goals as goal

pub loop-pair-preserved : goal.loop-pair-preserved
loop-pair-preserved c =
    one_more_flat (pair_values c.args.items.now) c.args.pairs.now c.loop-pair.pair-index _ c.loop-pair.values.items c.put_pair.new.values.items c.loop-pair-test.true c.in_ok-put_pair.ensures c.loop-pair.invariant
