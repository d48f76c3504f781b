use Rattle.partial_rows.specs.Pairs.{short_pair_values}
use Rattle.partial_rows.proofs.Pairs.{one_more_flat}
use Rattle.partial_rows.proofs.short_pair_table.short_pair_values.Goals as goal

pub loop-key-preserved : goal.loop-key-preserved
loop-key-preserved c =
    one_more_flat (short_pair_values c.args.items.now) c.args.keys.now c.loop-key.key-index _ c.loop-key.values.items c.put_pair.new.values.items c.loop-key-test.true c.in_ok-put_pair.ensures c.loop-key.invariant
