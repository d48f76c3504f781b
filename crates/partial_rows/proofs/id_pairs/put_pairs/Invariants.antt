use Rattle.std.proofs.Common.{◌≡◌, ◌++◌, ◌+◌, ◌≤◌, length, map, take, vec_len, vec_capacity}
use Rattle.partial_rows.specs.PackedKeys.{pair_in}
use Rattle.partial_rows.proofs.id_pairs.put_pairs.Given as goal

abbrev pub invariant-loop-key : goal.invariant-loop-key
invariant-loop-key l = record {
  items : l.wide.items ≡ l.initial.wide.items ++ map pair_in (take l.key-index l.keys);
  room : vec_len l.wide + length l.keys ≤ vec_capacity l.wide + l.key-index;
}
