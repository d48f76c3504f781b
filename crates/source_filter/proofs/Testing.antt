-- The conditions that are tests of a column.
use Rattle.std.proofs.Common.{◌≡◌, ◌∙◌, refl, sym, ap, subst, ℤ, Bool, true, false, ◌&&◌, Option, None, Some}
use Rattle.std.specs.Prelude.{int_le}
use Rattle.sql_tree.specs.declared.cond.Cmp.{Cmp}
use Rattle.sql_tree.specs.declared.cond.Cmp.TheVariants.{AtMost}
use Rattle.sql_bound.specs.declared.cond.BoundCond.{BoundCond, out-BoundCond}
use Rattle.sql_bound.specs.declared.cond.BoundPred.TheFolds.{fold_out-BoundCond}
use Rattle.sql_bound.specs.declared.expr.BoundCol.{BoundCol}
use Rattle.value_rules.specs.ColumnTests.{mirrored}
use Rattle.value_rules.specs.Formulas.{Formula, Compares, And, at_pred, at_all, at_any, at_cond, formula_of, formula_of_pred, negated_if}
use Rattle.value_rules.specs.Terms.{Term, Column}
use Rattle.value_rules.specs.Truth.{compared, is_true, truth_and}
use Rattle.value_rules.specs.Values.{value_at}
use Rattle.value_rules.proofs.ColumnTests.{mirrored_compares}
use Rattle.source_filter.specs.declared.test.ColumnTest.{ColumnTest}
use Rattle.source_filter.specs.declared.test.Test.TheVariants.{Compare, Range}
use Rattle.source_filter.specs.Tests.{IsColumnTest, passes}

compared_is : (op : Cmp) (n : ℤ) (v : Option ℤ) → passes (Compare op n) v ≡ is_true (compared op v (Some n))
compared_is op n None = refl
compared_is op n (Some z) = refl

-- a column compared with a number
pub compare_is_a_test : (op : Cmp) (t u : Term) (col : BoundCol) (n : ℤ) → t ≡ Column col → ((cells : BoundCol → Option ℤ) → value_at cells u ≡ Some n)
    → IsColumnTest (Compares op t u) (record { col = col; test = Compare op n })
compare_is_a_test op t u col n is number = λ cells at.
    sym (compared_is op n (cells col)
    ∙ (ap (λ v. is_true (compared op (cells col) v)) (sym (number cells))
    ∙ ap (λ t. is_true (compared op (value_at cells t) (value_at cells u))) (sym is)))

-- a number compared with a column
pub mirrored_is_a_test : (op : Cmp) (t u : Term) (col : BoundCol) (n : ℤ) → u ≡ Column col → ((cells : BoundCol → Option ℤ) → value_at cells t ≡ Some n)
    → IsColumnTest (Compares op t u) (record { col = col; test = Compare (mirrored op) n })
mirrored_is_a_test op t u col n is number = λ cells at.
    sym (compared_is (mirrored op) n (cells col)
    ∙ (ap is_true (mirrored_compares op (Some n) (cells col))
    ∙ (ap (λ v. is_true (compared op v (cells col))) (sym (number cells))
    ∙ ap (λ u. is_true (compared op (value_at cells t) (value_at cells u))) (sym is))))

range_is : (a b : ℤ) (v : Option ℤ) → passes (Range a b) v ≡ is_true (truth_and (compared AtMost (Some a) v) (compared AtMost v (Some b)))
range_is a b None = refl
range_is a b (Some z) = both (int_le a z) (int_le z b)
  where
    both : (p q : Bool) → (p && q) ≡ is_true (truth_and (Some p) (Some q))
    both true q = refl
    both false q = refl

-- a column between two numbers
pub between_is_a_test : (low value high : Term) (col : BoundCol) (a b : ℤ) → value ≡ Column col → ((cells : BoundCol → Option ℤ) → value_at cells low ≡ Some a)
    → ((cells : BoundCol → Option ℤ) → value_at cells high ≡ Some b)
    → IsColumnTest (And (Compares AtMost low value) (Compares AtMost value high)) (record { col = col; test = Range a b })
between_is_a_test low value high col a b is from to = λ cells at.
    sym (range_is a b (cells col)
    ∙ (ap (λ v. is_true (truth_and (compared AtMost v (cells col)) (compared AtMost (cells col) (Some b)))) (sym (from cells))
    ∙ (ap (λ v. is_true (truth_and (compared AtMost (value_at cells low) (cells col)) (compared AtMost (cells col) v))) (sym (to cells))
    ∙ ap (λ t. is_true (truth_and (compared AtMost (value_at cells low) (value_at cells t)) (compared AtMost (value_at cells t) (value_at cells high)))) (sym is))))

-- a condition without NOT is its predicate
pub plain_cond : (c : BoundCond) (t : ColumnTest) → (out-BoundCond c).not ≡ false → IsColumnTest (formula_of_pred (out-BoundCond c).pred) t → IsColumnTest (formula_of c) t
plain_cond c t is h =
    subst (λ f. IsColumnTest f t)
    (sym (fold_out-BoundCond Formula Formula Formula Formula at_pred at_all at_any at_cond c
    ∙ ap (λ b. negated_if b (formula_of_pred (out-BoundCond c).pred)) is)) h
