-- What worked examples are computed by: the equations of folds over written trees, and of what a condition is taken apart
-- into and bound to.
use Rattle.sql_tree.specs.declared.expr.Atom.TheFolds.{fold-roll-Factor, fold-roll-Prod, fold-roll-Signed}
use Rattle.sql_tree.specs.declared.expr.Atom.TheFolds.{fold-roll-Expr}
use Rattle.sql_tree.specs.declared.cond.Pred.TheFolds.{fold-roll-Neg, fold-roll-Conj, fold-roll-Cond}
use Rattle.bind_rules.proofs.Apart.{group_apart, compare_apart, between_apart, among_apart, null_apart, area_apart}
use Rattle.bind_rules.proofs.Apart.{chord_apart, neg_apart, conj_apart, cond_apart}
use Rattle.bind_rules.proofs.Folds.{fold_int, fold_col, fold_bracket, fold_group, fold_compare, fold_between}
use Rattle.bind_rules.proofs.Folds.{fold_among, fold_null, fold_area, fold_chord}
use Rattle.bind_rules.proofs.Found.{found_negated, found_group, found_compare, found_between, found_among}
use Rattle.bind_rules.proofs.Found.{found_null, found_area, found_chord}
use Rattle.bind_rules.proofs.Views.{negated_test, group_test, compare_test, between_test, among_test, null_test}
use Rattle.bind_rules.proofs.Views.{area_test_of, chord_test}
use Rattle.bind_rules.proofs.Wholes.{bound_group, bound_compare, bound_between, bound_among, bound_null, bound_area}
use Rattle.bind_rules.proofs.Wholes.{bound_chord, bound_neg_roll, bound_conj_roll, bound_cond_roll}

-- a written tree, and the tests of its WHERE
pub ruleset written = (
  fold_int,
  fold_col,
  fold_bracket,
  fold_group,
  fold_compare,
  fold_between,
  fold_among,
  fold_null,
  fold_area,
  fold_chord,
  fold-roll-Factor,
  fold-roll-Prod,
  fold-roll-Signed,
  fold-roll-Expr,
  fold-roll-Neg,
  fold-roll-Conj,
  fold-roll-Cond,
  group_apart,
  compare_apart,
  between_apart,
  among_apart,
  null_apart,
  area_apart,
  chord_apart,
  neg_apart,
  conj_apart,
  cond_apart,
  found_negated,
  found_group,
  found_compare,
  found_between,
  found_among,
  found_null,
  found_area,
  found_chord,
)

-- the tests among its conjuncts, and its bound conditions
pub ruleset bindings = (
  negated_test,
  group_test,
  compare_test,
  between_test,
  among_test,
  null_test,
  area_test_of,
  chord_test,
  bound_group,
  bound_compare,
  bound_between,
  bound_among,
  bound_null,
  bound_area,
  bound_chord,
  bound_neg_roll,
  bound_conj_roll,
  bound_cond_roll,
)
