use Rattle.std.proofs.Common.{codes}
use Rattle.sky_io.proofs.Writes.{wrote_one, wrote_two}
use Rattle.top_call.specs.FaultLines.{place}
use Rattle.top_call.proofs.fault_lines.put_field_value.Goals as goal

pub returns-in-Failed : goal.returns-in-Failed
returns-in-Failed g c = wrote_one _ _ (place (codes ": field ") c.args.field) _ c.in-Failed.ensures

pub returns-in-Done : goal.returns-in-Done
returns-in-Done g c = wrote_two _ _ _ (place (codes ": field ") c.args.field) _ _ c.in-Done.ensures c.put_valued.ensures
