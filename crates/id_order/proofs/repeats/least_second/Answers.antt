use Rattle.std.proofs.Common.{arith, ◌≡◌, ◌+◌, ◌-◌}
use Rattle.id_order.proofs.LeastSecond.{least_step}
use Rattle.id_order.proofs.repeats.least_second.Goals as goal

pub loop-i-preserved : goal.loop-i-preserved
loop-i-preserved c =
    let near : c.loop-i.i - 1 + 1 ≡ c.loop-i.i = omega arith in
    record {
      least = least_step c.args.keys.now (c.loop-i.i - 1) c.loop-i.i _ _ near
          c.least_with-least.ensures.other c.least_with-least.ensures.same c.loop-i.invariant.least;
      within = omega arith;
    }
