use Rattle.std.proofs.Common.{◌≡◌, ◌+◌, ◌++◌, ◌<◌, replicate, take}
use Rattle.partial_groups.proofs.row_runs.run_length.Given as goal

abbrev pub invariant-loop-i : goal.invariant-loop-i
invariant-loop-i l = record {
  some : 0 < l.n;
  end : l.i ≡ l.fn.from + l.n;
  equal : take l.i l.values ≡ take l.fn.from l.values ++ replicate l.n l.value;
}
