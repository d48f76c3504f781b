use Rattle.std.proofs.Common.{◌∙◌, ap, rules}
use Rattle.czar.proofs.Driving.{of_value}
use Rattle.child_session.specs.ChildAttached.{child_board_of}
use Rattle.child_session.specs.ChildQueryPlans.{child_plans_of}
use Rattle.child_session.proofs.Driving.{own_root}
use Rattle.child_session.proofs.ScriptEnds.{ends_drove, ends_hold, if_so, may_all_end}
use Rattle.child_session.proofs.session.drive_children.Goals as goal

pub all_query_ends-requires : goal.all_query_ends-requires
all_query_ends-requires g c =
    let limits = c.within_limits.ensures in
    record {
      may = may_all_end c.args.session.now.script.now (of_value _ c.in-Ok-ends.is c.driven-ends.ensures.driven) (search rules) (search rules)
          (record { sky = limits.sky; rows = limits.rows; table = limits.table; run = c.bound_can_be_run.ensures }) c.in-Ok.ensures c.requires.plans;
    }

pub returns-in-Ok-ends-clause-drove : goal.returns-in-Ok-ends-clause-drove
returns-in-Ok-ends-clause-drove g c =
    ends_drove (of_value _ c.in-Ok-ends.is c.driven-ends.ensures.driven) c.all_query_ends.result
    (ap child_plans_of c.as_slice.ensures.value ∙ c.in-Ok.ensures)

pub returns-in-Ok-ends-clause-states : goal.returns-in-Ok-ends-clause-states
returns-in-Ok-ends-clause-states g c =
    let limits = c.within_limits.ensures in
    if_so c.all_query_ends.result
    (ends_hold c.args.session.now.script.now (of_value _ c.in-Ok-ends.is c.driven-ends.ensures.driven) (λ v. v.items) c.all_query_ends.result
    (search rules) (search rules) c.steps.ensures.numbered
    (record { sky = limits.sky; rows = limits.rows; table = limits.table; run = c.bound_can_be_run.ensures }) c.in-Ok.ensures c.requires.plans
    c.all_query_ends.ensures)
    (λ v all. all.states)

pub returns-in-Ok-ends-clause-done : goal.returns-in-Ok-ends-clause-done
returns-in-Ok-ends-clause-done g c =
    let limits = c.within_limits.ensures in
    if_so c.all_query_ends.result
    (ends_hold c.args.session.now.script.now (of_value _ c.in-Ok-ends.is c.driven-ends.ensures.driven) (λ v. v.items) c.all_query_ends.result
    (search rules) (search rules) c.steps.ensures.numbered
    (record { sky = limits.sky; rows = limits.rows; table = limits.table; run = c.bound_can_be_run.ensures }) c.in-Ok.ensures c.requires.plans
    c.all_query_ends.ensures)
    (λ v all. all.done)

pub returns-in-Ok-ends-clause-fit : goal.returns-in-Ok-ends-clause-fit
returns-in-Ok-ends-clause-fit g c =
    let limits = c.within_limits.ensures in
    if_so c.all_query_ends.result
    (ends_hold c.args.session.now.script.now (of_value _ c.in-Ok-ends.is c.driven-ends.ensures.driven) (λ v. v.items) c.all_query_ends.result
    (search rules) (search rules) c.steps.ensures.numbered
    (record { sky = limits.sky; rows = limits.rows; table = limits.table; run = c.bound_can_be_run.ensures }) c.in-Ok.ensures c.requires.plans
    c.all_query_ends.ensures)
    (λ v all. all.fit)

pub returns-in-Ok-ends-clause-shown : goal.returns-in-Ok-ends-clause-shown
returns-in-Ok-ends-clause-shown g c =
    let limits = c.within_limits.ensures in
    if_so c.all_query_ends.result
    (ends_hold c.args.session.now.script.now (of_value _ c.in-Ok-ends.is c.driven-ends.ensures.driven) (λ v. v.items) c.all_query_ends.result
    (search rules) (search rules) c.steps.ensures.numbered
    (record { sky = limits.sky; rows = limits.rows; table = limits.table; run = c.bound_can_be_run.ensures }) c.in-Ok.ensures c.requires.plans
    c.all_query_ends.ensures)
    (λ v all. all.shown)

pub close_unused-requires : goal.close_unused-requires
close_unused-requires g c = record {
  first = own_root c.args.board.now c.args.seat (child_board_of c.args.session.now.world.now c.args.plans.items) c.requires.seat;
}

pub returns-in-Err-clause-manned : goal.returns-in-Err-clause-manned
returns-in-Err-clause-manned g c = c.close_unused.ensures.manned
