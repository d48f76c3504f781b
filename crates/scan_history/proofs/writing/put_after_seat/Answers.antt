use Rattle.std.proofs.Common.{[], ◌∷◌}
use Rattle.sky_io.proofs.Writes.{wrote_one, wrote_two}
use Rattle.scan_history.specs.Printed.{event_parts, spaced}
use Rattle.scan_history.proofs.writing.put_after_seat.Goals as goal

pub returns-in-Failed : goal.returns-in-Failed
returns-in-Failed g c = wrote_one _ _ (spaced (event_parts c.args.entry.now)) (10 ∷ []) c.in-Failed.ensures

pub returns-in-Done : goal.returns-in-Done
returns-in-Done g c = wrote_two _ _ _ (spaced (event_parts c.args.entry.now)) (10 ∷ []) _ c.in-Done.ensures c.put.ensures
