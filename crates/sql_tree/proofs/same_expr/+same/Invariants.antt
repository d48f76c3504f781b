use Rattle.std.proofs.Common.{◌≡◌, map, take, length}
use Rattle.sql_tree.specs.Bare.{bare_factor, bare_signed}
use Rattle.sql_tree.proofs.same_expr.+same.Given as goal

abbrev pub invariant-same_factors-loop-at : goal.invariant-same_factors-loop-at
invariant-same_factors-loop-at l = record {
  lengths : length l.a ≡ length l.b;
  same : map bare_factor (take l.at l.a) ≡ map bare_factor (take l.at l.b);
}

abbrev pub invariant-same_signeds-loop-at : goal.invariant-same_signeds-loop-at
invariant-same_signeds-loop-at l = record {
  lengths : length l.a ≡ length l.b;
  same : map bare_signed (take l.at l.a) ≡ map bare_signed (take l.at l.b);
}
