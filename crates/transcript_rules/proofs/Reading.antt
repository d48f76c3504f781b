-- What worked examples are computed by: the equations of folds over written trees, by what stands in a text.
use Rattle.sql_tree.specs.declared.expr.Atom.TheFolds.{fold-roll-Factor, fold-roll-Prod, fold-roll-Signed}
use Rattle.sql_tree.specs.declared.expr.Atom.TheFolds.{fold-roll-Expr}
use Rattle.sql_tree.specs.declared.cond.Pred.TheFolds.{fold-roll-Neg, fold-roll-Conj, fold-roll-Cond}
use Rattle.bind_rules.proofs.Folds.{fold_int, fold_col, fold_bracket, fold_compare}
use Rattle.bind_rules.proofs.Folds.{fold_area, fold_chord}
use Rattle.bind_rules.proofs.Apart.{compare_apart, area_apart}
use Rattle.bind_rules.proofs.Apart.{chord_apart, neg_apart, conj_apart, cond_apart}
use Rattle.bind_rules.proofs.Found.{found_negated, found_compare}
use Rattle.bind_rules.proofs.Found.{found_area, found_chord}
use Rattle.bind_rules.proofs.Views.{negated_test, compare_test}
use Rattle.bind_rules.proofs.Views.{area_test_of, chord_test}
use Rattle.bind_rules.proofs.Wholes.{bound_compare, bound_area}
use Rattle.bind_rules.proofs.Wholes.{bound_chord, bound_neg_roll, bound_conj_roll, bound_cond_roll}
use Rattle.sql_rules.proofs.PrintOpened.{print_col_atom, print_factor_roll}
use Rattle.sql_rules.proofs.PrintOpened.{print_prod_roll, print_expr_roll, print_bracket_pred}
use Rattle.sql_rules.proofs.PrintOpened.{print_compare_pred, print_between_pred, print_among_pred, print_null_pred}
use Rattle.sql_rules.proofs.PrintOpened.{print_area_pred, print_chord_pred, print_neg_roll, print_conj_roll}
use Rattle.sql_rules.proofs.PrintOpened.{print_cond_roll}

-- columns alone
pub ruleset columns = (fold_col, fold-roll-Factor, fold-roll-Prod, fold-roll-Expr)

-- sums, ints and brackets in expressions
pub ruleset sums = (fold-roll-Signed, fold_int, fold_bracket)

-- a condition
pub ruleset conditions = (
  fold-roll-Neg,
  fold-roll-Conj,
  fold-roll-Cond,
  neg_apart,
  conj_apart,
  cond_apart,
  negated_test,
  found_negated,
  bound_neg_roll,
  bound_conj_roll,
  bound_cond_roll,
)

-- each predicate
pub ruleset by_compare = (fold_compare, compare_apart, compare_test, found_compare, bound_compare)

pub ruleset by_area = (fold_area, area_apart, area_test_of, found_area, bound_area)

pub ruleset by_chord = (fold_chord, chord_apart, chord_test, found_chord, bound_chord)

-- how columns alone are printed
pub ruleset printed_columns = (print_col_atom, print_factor_roll, print_prod_roll, print_expr_roll)

-- how conditions are printed
pub ruleset printed_conditions = (
  print_neg_roll,
  print_conj_roll,
  print_cond_roll,
  print_bracket_pred,
  print_compare_pred,
  print_between_pred,
  print_among_pred,
  print_null_pred,
  print_area_pred,
  print_chord_pred,
)
