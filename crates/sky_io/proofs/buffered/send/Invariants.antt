use Rattle.std.proofs.Common.{◌-◌, length}
use Rattle.sky_io.proofs.Sends.{Sending}
use Rattle.sky_io.proofs.buffered.send.Given as goal

-- the first bytes were written, and nothing has failed
abbrev pub invariant-loop-sent : goal.invariant-loop-sent
invariant-loop-sent g l = Sending (g.W.RawWrite.state l.fn.out) (g.W.RawWrite.state l.out) l.bytes l.sent

abbrev pub decreases-loop-sent : goal.decreases-loop-sent
decreases-loop-sent g l = length l.bytes - l.sent
