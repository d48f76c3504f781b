use Rattle.std.proofs.Common.{◌≡◌, ◌++◌, ◌+◌, ◌≤◌, length, take, vec_len, vec_capacity}
use Rattle.partial_groups.proofs.aggregation_table.put_reserved.Given as goal

abbrev pub invariant-loop-part : goal.invariant-loop-part
invariant-loop-part l = record {
  items : l.tallies.items ≡ l.initial.tallies.items ++ take l.part-index l.parts;
  room : vec_len l.tallies + length l.parts ≤ vec_capacity l.tallies + l.part-index;
}
