use Rattle.std.proofs.Common.{map, drop}
use Rattle.text_rules.specs.Readings.{joined}
use Rattle.query_walks.specs.Walks.{kept_if}
use Rattle.query_walks.specs.Gathering.{tests_of_conj, tests_of_neg}
use Rattle.query_walks.proofs.TestWalks.{Under}
use Rattle.query_walks.proofs.tests_in.+walk.Given as goal

abbrev pub invariant-walk_conjs-loop-conj : goal.invariant-walk_conjs-loop-conj
invariant-walk_conjs-loop-conj g l = record {
  under : Under g.G.Gather.kept g.G.Gather.after l.fn.gather l.gather
      (kept_if l.top (joined (map tests_of_conj (drop l.conj-index l.rest))))
      (kept_if l.top (joined (map tests_of_conj l.rest)));
}

abbrev pub invariant-walk_negs-loop-neg : goal.invariant-walk_negs-loop-neg
invariant-walk_negs-loop-neg g l = record {
  under : Under g.G.Gather.kept g.G.Gather.after l.fn.gather l.gather
      (kept_if l.top (joined (map tests_of_neg (drop l.neg-index l.rest))))
      (kept_if l.top (joined (map tests_of_neg l.rest)));
}
