use Rattle.std.proofs.Common.{[], ◌∷◌, ◌++◌}
use Rattle.std.specs.Fmt.{decimal}
use Rattle.sky_io.proofs.Writes.{wrote_one, wrote_two}
use Rattle.scan_rules.specs.Lines.{seat_of}
use Rattle.scan_history.specs.Printed.{event_parts, spaced}
use Rattle.scan_history.proofs.writing.put_entry.Goals as goal

pub returns-in-Failed : goal.returns-in-Failed
returns-in-Failed g c = wrote_one _ _ (decimal (seat_of c.args.entry.now)) (spaced (event_parts c.args.entry.now) ++ 10 ∷ []) (rw (c.from.ensures, c.seat_of.ensures) at c.in-Failed.ensures)

pub returns-in-Done : goal.returns-in-Done
returns-in-Done g c = wrote_two _ _ _ (decimal (seat_of c.args.entry.now)) (spaced (event_parts c.args.entry.now) ++ 10 ∷ []) _ (rw (c.from.ensures, c.seat_of.ensures) at c.in-Done.ensures) c.put_after_seat.ensures
