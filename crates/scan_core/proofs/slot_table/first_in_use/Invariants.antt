use Rattle.scan_core.specs.Rest.{RestOutside}
use Rattle.scan_core.proofs.slot_table.first_in_use.Given as goal

abbrev pub invariant-loop-q : goal.invariant-loop-q
invariant-loop-q l = RestOutside l.slots.items l.q l.fn.to
