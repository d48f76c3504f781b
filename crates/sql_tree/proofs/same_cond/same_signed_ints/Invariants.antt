use Rattle.std.proofs.Common.{◌≡◌, map, take, length}
use Rattle.sql_tree.specs.Bare.{bare_int}
use Rattle.sql_tree.proofs.same_cond.same_signed_ints.Given as goal

abbrev pub invariant-loop-at : goal.invariant-loop-at
invariant-loop-at l = record {
  lengths : length l.a ≡ length l.b;
  same : map bare_int (take l.at l.a) ≡ map bare_int (take l.at l.b);
}
