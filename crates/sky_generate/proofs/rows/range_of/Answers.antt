use Rattle.sky_generate.proofs.Growth.{one_more_made}
use Rattle.sky_generate.proofs.rows.range_of.Goals as goal

pub loop-made-preserved : goal.loop-made-preserved
loop-made-preserved c =
    one_more_made c.args.from c.loop-made.made c.args.seed c.loop-made.before c.loop-made.rows c.push.new.self
    c.after-draws.result c.object.result c.loop-made.invariant c.after-draws.ensures c.object.ensures
    c.in_ok-push.ensures.names c.in_ok-push.ensures.ok
