use Rattle.top_call.proofs.Demos.{demo_explained}
use Rattle.top_call.proofs.demo.run_demo.Goals as goal

pub returns-in-Ok : goal.returns-in-Ok
returns-in-Ok g c =
    λ shelf. demo_explained c.demo_is_answered.ensures.answered c.demo_sky_is_accepted.ensures.plan
    c.demo_script_is_accepted.ensures.steps c.args.count c.args.seed c.args.workers c.requires.few
    c.in-Ok.store _ _ _ shelf c.in-Ok.ensures c.answer_demo.ensures
