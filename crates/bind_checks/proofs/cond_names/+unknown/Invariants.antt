use Rattle.std.proofs.Common.{◌≡◌, map, drop}
use Rattle.text_rules.specs.Readings.{joined}
use Rattle.bind_checks.specs.Parts.{conj_mentions, neg_mentions}
use Rattle.bind_checks.specs.Unknowns.{unknown_at}
use Rattle.bind_checks.proofs.cond_names.+unknown.Given as goal

abbrev pub invariant-unknown_in_conjs-loop-conj : goal.invariant-unknown_in_conjs-loop-conj
invariant-unknown_in_conjs-loop-conj g l = record {
  ahead : unknown_at (g.C.Columns.known l.columns) (joined (map conj_mentions l.rest))
      ≡ unknown_at (g.C.Columns.known l.columns) (joined (map conj_mentions (drop l.conj-index l.rest)));
}

abbrev pub invariant-unknown_in_negs-loop-neg : goal.invariant-unknown_in_negs-loop-neg
invariant-unknown_in_negs-loop-neg g l = record {
  ahead : unknown_at (g.C.Columns.known l.columns) (joined (map neg_mentions l.rest))
      ≡ unknown_at (g.C.Columns.known l.columns) (joined (map neg_mentions (drop l.neg-index l.rest)));
}
