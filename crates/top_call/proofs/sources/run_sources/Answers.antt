use Rattle.top_call.specs.Words.{AsksSources}
use Rattle.top_call.specs.Jobs.{tables_of}
use Rattle.top_call.proofs.Tasks.{sources_explained, stop_explained}
use Rattle.top_call.proofs.sources.run_sources.Goals as goal

pub returns-in-Ok : goal.returns-in-Ok
returns-in-Ok g c =
    sources_explained c.args.workers c.args.names.now.sky.now c.args.names.now.catalogue.now c.args.names.now.sources.now
    c.args.names.now.script.now (tables_of c.in-Ok.store c.in-Ok.sources) _ _ _ _ _ _ c.in-Ok.ensures.ok c.over_store-outcome.ensures

pub returns-in-Err : goal.returns-in-Err
returns-in-Err g c =
    stop_explained (AsksSources c.args.workers c.args.names.now.sky.now c.args.names.now.catalogue.now c.args.names.now.sources.now
    c.args.names.now.script.now) _ _ (c.in-Err.ensures.err (g.K.Sink.state c.args.sink.now))
