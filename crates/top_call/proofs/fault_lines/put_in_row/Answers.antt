use Rattle.std.proofs.Common.{codes}
use Rattle.sky_io.proofs.Writes.{wrote_one, wrote_two}
use Rattle.top_call.specs.FaultLines.{place}
use Rattle.top_call.proofs.fault_lines.put_in_row.Goals as goal

pub returns-in-Failed : goal.returns-in-Failed
returns-in-Failed g c = wrote_one _ _ (place (codes " row ") c.args.row) _ c.in-Failed.ensures

pub returns-in-Done : goal.returns-in-Done
returns-in-Done g c = wrote_two _ _ _ (place (codes " row ") c.args.row) _ _ c.in-Done.ensures c.put_numbered.ensures
