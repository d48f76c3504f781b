use Rattle.std.proofs.Common.{drop, map}
use Rattle.value_rules.specs.Formulas.{formula_of, formula_of_all, formula_of_any}
use Rattle.column_eval.proofs.Judging.{AllSoFar, AnySoFar}
use Rattle.column_eval.proofs.cond.+judge.Given as goal

abbrev pub invariant-any-loop-next : goal.invariant-any-loop-next
invariant-any-loop-next l =
    AnySoFar l.rows.objects l.found (map formula_of_all (drop l.next-index l.rest)) (formula_of_any l.a)

abbrev pub invariant-all-loop-next : goal.invariant-all-loop-next
invariant-all-loop-next l =
    AllSoFar l.rows.objects l.found (map formula_of (drop l.next-index l.rest)) (formula_of_all l.a)
