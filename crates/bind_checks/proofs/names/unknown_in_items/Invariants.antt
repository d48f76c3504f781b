use Rattle.std.proofs.Common.{◌≡◌, drop}
use Rattle.std.specs.List.{flat_map}
use Rattle.bind_checks.specs.Parts.{item_mentions}
use Rattle.bind_checks.specs.Unknowns.{unknown_at}
use Rattle.bind_checks.proofs.names.unknown_in_items.Given as goal

abbrev pub invariant-loop-item : goal.invariant-loop-item
invariant-loop-item g l = record {
  ahead : unknown_at (g.C.Columns.known l.columns) (flat_map item_mentions l.items)
      ≡ unknown_at (g.C.Columns.known l.columns) (flat_map item_mentions (drop l.item-index l.items));
}
