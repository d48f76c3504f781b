use Rattle.top_call.specs.Words.{Asks}
use Rattle.top_call.proofs.Tasks.{slice_explained, stop_explained}
use Rattle.top_call.proofs.top.run_task.Goals as goal

pub returns-in-Ok : goal.returns-in-Ok
returns-in-Ok g c =
    slice_explained c.args.task c.args.names.now.sky.now c.args.names.now.catalogue.now c.args.names.now.script.now c.in-Ok.store
    c.in-Ok.text.items c.as_slice.result.now _ _ _ _ _ c.in-Ok.ensures.ok c.as_slice.ensures.value c.do_task.ensures

pub returns-in-Err : goal.returns-in-Err
returns-in-Err g c =
    stop_explained (Asks c.args.task c.args.names.now.sky.now c.args.names.now.catalogue.now c.args.names.now.script.now) _ _
    (c.in-Err.ensures.err (g.K.Sink.state c.args.sink.now))
