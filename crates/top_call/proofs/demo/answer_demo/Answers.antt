use Rattle.std.proofs.Common.{◌≤◌, length, subst, sym}
use Rattle.text_rules.specs.declared.limits.TheConstants.{SCRIPT_TEXT_MOST}
use Rattle.top_call.proofs.Demos.{demo_task}
use Rattle.top_call.proofs.demo.answer_demo.Goals as goal

pub do_task-requires-clause-short : goal.do_task-requires-clause-short
do_task-requires-clause-short g c =
    λ κs outlives.
    subst (λ t. length t ≤ SCRIPT_TEXT_MOST) (sym c.demo_script.ensures) c.demo_script_is_accepted.ensures.short

pub returns : goal.returns
returns g c =
    demo_task c.args.workers c.args.store _ _ _ _ c.demo_script.ensures c.demo_script_is_accepted.ensures.short
    c.demo_script_is_accepted.ensures.steps c.do_task.ensures
