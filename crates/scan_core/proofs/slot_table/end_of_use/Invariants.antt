use Rattle.std.proofs.Common.{◌-◌}
use Rattle.scan_core.specs.Rest.{RestOutside}
use Rattle.scan_core.proofs.slot_table.end_of_use.Given as goal

abbrev pub invariant-loop-n : goal.invariant-loop-n
invariant-loop-n l = RestOutside l.slots.items l.fn.from (l.to - l.n)
