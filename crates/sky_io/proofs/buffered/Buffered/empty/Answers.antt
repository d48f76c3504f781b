use Rattle.sky_io.proofs.Sends.{from_place}
use Rattle.sky_io.proofs.Holding.{emptied_part}
use Rattle.sky_io.proofs.buffered.Buffered.empty.Goals as goal

pub returns-then-sent-most : goal.returns-then-sent-most
returns-then-sent-most g c =
    let from = from_place c.self.inside.sent c.self.inside.buffer.items in
    let first = rw from at (rw c.as_slice.ensures.value at c.send-sent.ensures) in
    let less = rw from at (rw c.as_slice.ensures.value at c.if-sent-most.true) in
    rw (← c.self.view_is) (emptied_part _ _ _ first less)
