use Rattle.std.proofs.Common.{◌∙◌, sym, subst, arith}
use Rattle.scan_classes.specs.Pairs.{ClassTurns}
use Rattle.czar.proofs.PlanBlocks.{a_plan_each}
use Rattle.class_session.specs.ClassPlans.{IsFirstPair}
use Rattle.class_session.proofs.session.driven.Goals as goal

pub parts-requires : goal.parts-requires
parts-requires g c =
    let s = c.args.session.now in
    record {
      few = omega (arith, a_plan_each s.world.now.plan s.world.now.rows s.script.now c.args.plans.now c.requires.plans, c.queries.ensures.count, c.queries.ensures.few);
    }

pub driven_at-requires-clause-classes : goal.driven_at-requires-clause-classes
driven_at-requires-clause-classes g c = λ κs within. c.new-boards.ensures.classes ∙ c.in-Ok.ensures.classes

pub driven_at-requires-clause-first : goal.driven_at-requires-clause-first
driven_at-requires-clause-first g c = λ κs within.
    let w = c.args.session.now.world.now in
    subst (λ (turns : ClassTurns). IsFirstPair w.plan w.rows c.args.plans.now turns c.args.pair) (sym c.new-boards.ensures.turns) c.requires.first

pub returns-in-Ok-clause-drove : goal.returns-in-Ok-clause-drove
returns-in-Ok-clause-drove g c = c.driven_at.ensures.drove

pub returns-in-Ok-clause-driven : goal.returns-in-Ok-clause-driven
returns-in-Ok-clause-driven g c = c.driven_at.ensures.driven

pub returns-in-Ok-clause-manned : goal.returns-in-Ok-clause-manned
returns-in-Ok-clause-manned g c = c.driven_at.ensures.manned

pub returns-in-Err-clause-manned : goal.returns-in-Err-clause-manned
returns-in-Err-clause-manned g c = c.close_unused.ensures.manned

pub returns-in-Ok-clause-made : goal.returns-in-Ok-clause-made
returns-in-Ok-clause-made g c = c.driven_at.ensures.made
