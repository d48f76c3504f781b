use Rattle.std.proofs.Common.{◌++◌, ◌+◌, ◌≤◌, map, take, vec_len, vec_capacity, IsPermutation}
use Rattle.partial_rows.specs.CompactRows.{all_of, full}
use Rattle.partial_rows.specs.Rows.{moved}
use Rattle.partial_rows.proofs.unlimited_rows.put_compact_rows.Given as goal

abbrev pub invariant-loop-other : goal.invariant-loop-other
invariant-loop-other l = record {
  put : IsPermutation (all_of l.initial.unlimited ++ map (λ p. moved l.by (full l.width p)) (take l.other-index l.others)) (all_of l.unlimited);
  compact : vec_len l.unlimited.compact + vec_capacity l.initial.unlimited.compact ≤ vec_len l.initial.unlimited.compact + vec_capacity l.unlimited.compact + l.other-index;
  rows : vec_len l.unlimited.rows + vec_capacity l.initial.unlimited.rows ≤ vec_len l.initial.unlimited.rows + vec_capacity l.unlimited.rows + l.other-index;
}
