use Rattle.std.proofs.Common.{None, Some}
use Rattle.top_call.proofs.Stops.{script_stop}
use Rattle.top_call.proofs.inputs.fetch_all.Goals as goal

pub returns-in-Err-clause-err : goal.returns-in-Err-clause-err
returns-in-Err-clause-err g c = c.in-Err.ensures.err None (Some c.args.names.now.script.now)

pub returns-in-Err-fetch_script-clause-err : goal.returns-in-Err-fetch_script-clause-err
returns-in-Err-fetch_script-clause-err g c =
    script_stop c.args.names.now.sky.now c.args.names.now.catalogue.now c.args.names.now.script.now c.in-Ok.store _ _ _ _
    c.in-Ok.ensures.ok c.in-Err-fetch_script.ensures.err
