use Rattle.sky_io.proofs.Sends.{stream_failed}
use Rattle.sky_io.proofs.print_stream.PrintStreamRawWrite.write_some.Goals as goal

pub returns-in_default : goal.returns-in_default
returns-in_default g c = rw (← c.self.view_is) (stream_failed _ _ _ _ c.raw_fault.ensures.counted c.raw_fault.ensures.later)
