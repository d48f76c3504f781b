use Rattle.std.proofs.Common.{◌≡◌, ◌≤◌, List, length, map, slice_range, take}
use Rattle.table_rules.specs.Objects.{Obj}
use Rattle.value_rules.specs.Values.{row}
use Rattle.answer_rules.specs.Parts.{part_over}
use Rattle.chunk_group_scan.specs.States.{argument_of}
use Rattle.chunk_group_scan.proofs.states.fill.Given as goal

abbrev pub invariant-loop-i : goal.invariant-loop-i
invariant-loop-i l =
    (objects : List Obj) → l.to ≤ length objects → l.arguments ≡ map (argument_of objects) l.items
    → l.states.items ≡ map (part_over (map row (slice_range objects l.from l.to))) (take l.i l.items)
