use Rattle.std.proofs.Common.{codes}
use Rattle.sky_io.proofs.Writes.{wrote_two}
use Rattle.top_call.specs.FaultLines.{script_line}
use Rattle.script_server.proofs.answer.put_fault.Goals as goal

pub returns-in-Done : goal.returns-in-Done
returns-in-Done g c = wrote_two _ _ _ (codes "+ ") (script_line c.args.fault.now) _ c.in-Done.ensures c.put_script_fault.ensures
