use Rattle.top_call.proofs.Stops.{catalogue_stop}
use Rattle.top_call.proofs.inputs.fetch_survey.Goals as goal

pub returns-in-Err-clause-err : goal.returns-in-Err-clause-err
returns-in-Err-clause-err g c =
    λ sources script. catalogue_stop c.args.sky.now c.args.catalogue.now sources script c.in_ok-plan.plan _ _ _ _
    c.in_ok-plan.ensures.ok c.in-Err.ensures.err
