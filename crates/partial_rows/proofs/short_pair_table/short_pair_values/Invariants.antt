use Rattle.std.proofs.Common.{◌≡◌, take}
use Rattle.std.specs.List.{flat_map}
use Rattle.partial_rows.specs.Pairs.{short_pair_values}
use Rattle.partial_rows.proofs.short_pair_table.short_pair_values.Given as goal

abbrev pub invariant-loop-key : goal.invariant-loop-key
invariant-loop-key l = l.values.items ≡ flat_map (short_pair_values l.items) (take l.key-index l.keys)
