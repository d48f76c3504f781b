use Rattle.std.proofs.Common.{◌≡◌, map, drop}
use Rattle.std.specs.List.{list_any}
use Rattle.text_rules.specs.Readings.{joined}
use Rattle.query_walks.specs.Parts.{conj_exprs, neg_exprs}
use Rattle.query_walks.proofs.cond_search.+search.Given as goal

abbrev pub invariant-is_in_conjs-loop-conj : goal.invariant-is_in_conjs-loop-conj
invariant-is_in_conjs-loop-conj g l = record {
  ahead : list_any (g.T.ExprTest.passes l.test) (joined (map conj_exprs l.rest))
      ≡ list_any (g.T.ExprTest.passes l.test) (joined (map conj_exprs (drop l.conj-index l.rest)));
}

abbrev pub invariant-is_in_negs-loop-neg : goal.invariant-is_in_negs-loop-neg
invariant-is_in_negs-loop-neg g l = record {
  ahead : list_any (g.T.ExprTest.passes l.test) (joined (map neg_exprs l.rest))
      ≡ list_any (g.T.ExprTest.passes l.test) (joined (map neg_exprs (drop l.neg-index l.rest)));
}
