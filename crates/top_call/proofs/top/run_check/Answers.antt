use Rattle.top_call.proofs.Checks.{slice_explained, unfetched}
use Rattle.top_call.proofs.top.run_check.Goals as goal

pub returns-in-Ok : goal.returns-in-Ok
returns-in-Ok g c =
    slice_explained c.args.journal.now c.in-Ok.text.items c.as_slice.result.now _ _ _ _ _ c.in-Ok.ensures.ok c.as_slice.ensures.value
    c.check_journal.ensures

pub returns-in-Err : goal.returns-in-Err
returns-in-Err g c = unfetched c.args.journal.now _ _ (g.K.Sink.state c.args.sink.now) _ c.in-Err.ensures.err
