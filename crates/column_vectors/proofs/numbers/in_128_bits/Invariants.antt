use Rattle.std.proofs.Common.{◌≡◌, length, take, vec_capacity, ◌≤◌}
use Rattle.column_vectors.proofs.numbers.in_128_bits.Given as goal

abbrev pub invariant-loop-number : goal.invariant-loop-number
invariant-loop-number l = record {
  items : l.wide.items ≡ take l.number-index l.numbers;
  room : length l.numbers ≤ vec_capacity l.wide;
}
