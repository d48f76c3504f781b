use Rattle.std.proofs.Common.{◌≡◌, ◌≤◌, length, take, vec_capacity}
use Rattle.column_vectors.proofs.mask.copied.Given as goal

abbrev pub invariant-loop-flag : goal.invariant-loop-flag
invariant-loop-flag l = record {
  items : l.found.items ≡ take l.flag-index l.mask;
  room : length l.mask ≤ vec_capacity l.found;
}
