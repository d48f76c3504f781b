use Rattle.std.proofs.Common.{inl, refl}
use Rattle.top_call.specs.Jobs.{RunsChildren}
use Rattle.top_call.proofs.Tasks.{script_run}
use Rattle.top_call.proofs.sources.over_tables.Goals as goal

pub returns-in-Ok : goal.returns-in-Ok
returns-in-Ok g c =
    script_run (RunsChildren c.args.crew.now.workers c.args.tables.now) c.args.script.now c.in-Ok.text.items c.as_slice.result.now
    _ _ _ _ _ c.in-Ok.ensures.ok c.as_slice.ensures.value c.work_on_text.ensures

pub returns-in-Err : goal.returns-in-Err
returns-in-Err g c = inl (c.in-Err.ensures.err, refl)
