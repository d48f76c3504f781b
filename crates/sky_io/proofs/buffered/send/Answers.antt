use Rattle.sky_io.proofs.Sends.{from_place, sending_more}
use Rattle.sky_io.proofs.buffered.send.Goals as goal

pub loop-sent-preserved : goal.loop-sent-preserved
loop-sent-preserved g c =
    let next = rw (from_place c.loop-sent.sent c.args.bytes.now) at c.in-Ok.ensures in
    sending_more _ _ _ _ _ _ c.loop-sent.invariant next
