use Rattle.std.proofs.Common.{arith, length, rules, ◌≤◌}
use Rattle.scan_rules.specs.declared.limits.TheConstants.{QUERY_MOST}
use Rattle.session_script.specs.Views.{query_lines}
use Rattle.czar.proofs.Attaching.{is_base_over}
use Rattle.czar.proofs.Fitting.{sound_plans}
use Rattle.czar.proofs.PlanBlocks.{a_plan_each}
use Rattle.czar.proofs.session.SessionContext.driven.Goals as goal

pub chunk_queries-requires : goal.chunk_queries-requires
chunk_queries-requires g c =
    let s = c.args.self.now in
    record {
      few = omega (arith, a_plan_each s.world.now.plan s.world.now.rows s.script.now c.args.plans.now c.requires.plans, c.queries.ensures.count, c.queries.ensures.few);
    }

pub seated-requires : goal.seated-requires
seated-requires g c =
    let s = c.args.self.now in
    let few : length c.args.plans.now ≤ QUERY_MOST =
    omega (arith, a_plan_each s.world.now.plan s.world.now.rows s.script.now c.args.plans.now c.requires.plans, c.queries.ensures.count, c.queries.ensures.few) in
    record {
      base = is_base_over s.world.now.plan s.world.now.rows c.args.plans.now _ c.within_limits.ensures.sky c.within_limits.ensures.rows few
          (sound_plans s.world.now.plan s.world.now.rows (query_lines s.script.now) c.args.plans.now c.requires.plans) (search rules);
    }
