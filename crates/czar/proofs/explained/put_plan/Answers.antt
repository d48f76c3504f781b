use Rattle.std.proofs.Common.{subst, sym}
use Rattle.transcript_rules.proofs.Steps.{told_by}
use Rattle.czar.specs.Plans.{PlanFor}
use Rattle.query_ends.proofs.Writing.{wrote_as}
use Rattle.czar.proofs.explained.put_plan.Goals as goal

pub returns-in-Planned : goal.returns-in-Planned
returns-in-Planned g c = c.put_planned.ensures

pub returns-in-Refused : goal.returns-in-Refused
returns-in-Refused g c =
    let refused = subst (λ p. PlanFor c.args.world.now.plan c.args.world.now.rows c.args.text.now p) c.in-Refused.is c.requires in
    wrote_as _ _ _ _ _
    (sym (told_by c.args.world.now.plan c.args.world.now.rows c.args.number c.args.text.now c.in-Refused.why refused))
    c.put_refusal.ensures
