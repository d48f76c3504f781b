use Rattle.std.proofs.Common.{None, refl}
use Rattle.top_call.specs.Words.{Load}
use Rattle.top_call.specs.Jobs.{Reports}
use Rattle.top_call.proofs.Tasks.{stop_explained}
use Rattle.top_call.proofs.Writing.{job_explained}
use Rattle.top_call.proofs.top.run_load.Goals as goal

pub returns-in-Ok : goal.returns-in-Ok
returns-in-Ok g c =
    job_explained (Load c.args.sky.now c.args.catalogue.now) (Reports c.in-Ok.store) _ _ _ _ _
    (c.in-Ok.store, refl, c.in-Ok.ensures.ok.holds) (λ ends fits. tt) c.in-Ok.ensures.ok.same c.report.ensures

pub returns-in-Err : goal.returns-in-Err
returns-in-Err g c =
    stop_explained (Load c.args.sky.now c.args.catalogue.now) _ _
    (c.in-Err.ensures.err None None (g.K.Sink.state c.args.sink.now))
