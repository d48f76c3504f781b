use Rattle.sky_io.proofs.Writes.{wrote_two}
use Rattle.top_call.specs.FaultLines.{place}
use Rattle.top_call.proofs.fault_lines.put_numbered.Goals as goal

pub returns-in-Done : goal.returns-in-Done
returns-in-Done g c = wrote_two _ _ _ (place c.args.thing.now c.args.n) _ _ c.in-Done.ensures c.put.ensures
