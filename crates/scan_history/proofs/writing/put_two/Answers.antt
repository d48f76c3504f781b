use Rattle.std.proofs.Common.{◌∷◌}
use Rattle.std.specs.Fmt.{decimal}
use Rattle.sky_io.proofs.Writes.{wrote_one, wrote_two}
use Rattle.scan_history.specs.Printed.{decimals, spaced}
use Rattle.scan_history.proofs.writing.put_two.Goals as goal

pub returns-in-Failed : goal.returns-in-Failed
returns-in-Failed g c = wrote_one _ _ (32 ∷ decimal c.args.first) (spaced (decimal c.args.second ∷ decimals c.args.numbers.now)) c.in-Failed.ensures

pub returns-in-Done : goal.returns-in-Done
returns-in-Done g c = wrote_two _ _ _ (32 ∷ decimal c.args.first) (spaced (decimal c.args.second ∷ decimals c.args.numbers.now)) _ c.in-Done.ensures c.put_first.ensures
