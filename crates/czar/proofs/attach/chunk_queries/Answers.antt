use Rattle.std.proofs.Common.{refl, rules}
use Rattle.czar.proofs.Attaching.{given_more}
use Rattle.czar.proofs.attach.chunk_queries.Goals as goal

pub loop-place-preserved : goal.loop-place-preserved
loop-place-preserved c =
    given_more c.args.plans.now c.loop-place.place _ c.index-plans-place.result _ _ c.loop-place.invariant c.loop-place-test.true refl
    (search rules)
