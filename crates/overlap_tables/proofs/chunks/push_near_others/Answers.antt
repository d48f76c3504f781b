use Rattle.std.proofs.lemmas.Result.{IfOk-weaker}
use Rattle.sky_vector.specs.Pos.{point}
use Rattle.overlap_tables.proofs.Fronts.{front_of_all}
use Rattle.overlap_tables.proofs.InStripe.{near_pushed}
use Rattle.overlap_tables.proofs.chunks.push_near_others.Goals as goal

pub returns-clause-all : goal.returns-clause-all
returns-clause-all c =
    IfOk-weaker c.push_in_stripes.result _ _ (λ done e.
    near_pushed c.args.plan.now (point c.args.p.now) c.stripes_near-from.result.0 c.stripes_near-from.result.1 c.args.into.now.items _ c.stripes_near-from.ensures e) c.push_in_stripes.ensures.all

pub returns-clause-part : goal.returns-clause-part
returns-clause-part c =
    front_of_all c.args.plan.now (point c.args.p.now) c.stripes_near-from.result.0 c.stripes_near-from.result.1 c.args.into.now.items _ c.stripes_near-from.ensures
    c.push_in_stripes.ensures.part
