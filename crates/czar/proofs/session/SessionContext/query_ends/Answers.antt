use Rattle.czar.proofs.ScriptEnds.{ends_fit, ends_show, session_may_end}
use Rattle.czar.proofs.session.SessionContext.query_ends.Goals as goal

pub all_query_ends-requires : goal.all_query_ends-requires
all_query_ends-requires g c =
    let s = c.args.self.now in
    record {
      may = session_may_end s.workers s.world.now.plan s.world.now.rows s.script.now c.args.plans.items _ c.within_limits.ensures.sky c.within_limits.ensures.rows c.requires.plans c.requires.driven;
    }

pub returns-clause-fit : goal.returns-clause-fit
returns-clause-fit g c =
    let s = c.args.self.now in
    ends_fit s.workers s.world.now.plan s.world.now.rows s.script.now c.args.plans.items _ _ _ c.within_limits.ensures.sky c.within_limits.ensures.rows c.steps.ensures.numbered c.requires.plans c.requires.driven c.all_query_ends.ensures

pub returns-clause-shown : goal.returns-clause-shown
returns-clause-shown g c =
    let s = c.args.self.now in
    ends_show s.workers s.world.now.plan s.world.now.rows s.script.now c.args.plans.items _ _ _ c.within_limits.ensures.sky c.within_limits.ensures.rows c.requires.plans c.requires.driven c.all_query_ends.ensures
