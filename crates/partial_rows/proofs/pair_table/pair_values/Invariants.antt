use Rattle.std.proofs.Common.{◌≡◌, take}
use Rattle.std.specs.List.{flat_map}
use Rattle.partial_rows.specs.Pairs.{pair_values}
use Rattle.partial_rows.proofs.pair_table.pair_values.Given as goal

abbrev pub invariant-loop-pair : goal.invariant-loop-pair
invariant-loop-pair l = l.values.items ≡ flat_map (pair_values l.items) (take l.pair-index l.pairs)
