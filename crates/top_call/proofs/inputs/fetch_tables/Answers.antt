use Rattle.std.proofs.Common.{Some}
use Rattle.top_call.proofs.Stops.{sources_stop}
use Rattle.top_call.proofs.inputs.fetch_tables.Goals as goal

pub returns-in-Err-clause-err : goal.returns-in-Err-clause-err
returns-in-Err-clause-err g c = c.in-Err.ensures.err (Some c.args.names.now.sources.now) (Some c.args.names.now.script.now)

pub returns-in-Err-fetch_sources-clause-err : goal.returns-in-Err-fetch_sources-clause-err
returns-in-Err-fetch_sources-clause-err g c =
    sources_stop c.args.names.now.sky.now c.args.names.now.catalogue.now c.args.names.now.sources.now
    (Some c.args.names.now.script.now) c.in-Ok.store _ _ _ _ c.in-Ok.ensures.ok c.in-Err-fetch_sources.ensures.err
