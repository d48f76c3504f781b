use Rattle.std.proofs.Common.{◌≡◌, map, take, length}
use Rattle.sql_tree.specs.Bare.{bare_conj, bare_neg}
use Rattle.sql_tree.proofs.same_cond.+same.Given as goal

abbrev pub invariant-same_conjs-loop-at : goal.invariant-same_conjs-loop-at
invariant-same_conjs-loop-at l = record {
  lengths : length l.a ≡ length l.b;
  same : map bare_conj (take l.at l.a) ≡ map bare_conj (take l.at l.b);
}

abbrev pub invariant-same_negs-loop-at : goal.invariant-same_negs-loop-at
invariant-same_negs-loop-at l = record {
  lengths : length l.a ≡ length l.b;
  same : map bare_neg (take l.at l.a) ≡ map bare_neg (take l.at l.b);
}
