-- Conditions that a kernel knows.
use Rattle.std.proofs.Common.{◌≡◌, ◌∙◌, refl, sym, ap, subst, ℕ, ◌<◌, ◌≤◌, arith, ℤ, Bool, true, false, ◌&&◌, Option, None, Some}
use Rattle.std.specs.Prelude.{IsTrue, int_le, is_none, is_some, nat_le, nat_lt}
use Rattle.std.proofs.lemmas.Bool.{and_parts}
use Rattle.sql_tree.specs.declared.cond.Cmp.{Cmp}
use Rattle.sql_tree.specs.declared.cond.Cmp.TheVariants.{AtMost}
use Rattle.sql_bound.specs.declared.area.AreaTest.TheVariants.{Band, Cap, Boxed}
use Rattle.sql_bound.specs.declared.cond.BoundCond.{BoundCond, out-BoundCond}
use Rattle.sql_bound.specs.declared.expr.BoundCol.{BoundCol}
use Rattle.sky_vector.specs.declared.direction.Dir.{Dir}
use Rattle.sky_vector.specs.declared.position.Pos.{Pos}
use Rattle.table_rules.specs.Objects.{Obj, cell}
use Rattle.value_rules.specs.Areas.{between_dirs, in_band}
use Rattle.value_rules.specs.ColumnTests.{mirrored}
use Rattle.value_rules.specs.Formulas.{Formula, Compares, IsNull, LiesIn, Not, And, formula_of, formula_of_pred, negated_if}
use Rattle.value_rules.specs.Sound.{has_col, is_sound_at, is_sound_formula}
use Rattle.value_rules.specs.Terms.{Term, Column}
use Rattle.value_rules.specs.Truth.{compared, is_true, truth_and, truth_not}
use Rattle.value_rules.specs.Values.{cell_of, row, value_at}
use Rattle.value_rules.specs.Widths.{most, widest_at}
use Rattle.value_rules.proofs.ColumnTests.{mirrored_compares}
use Rattle.expr_eval.proofs.Layers.{cond_parts}
use Rattle.column_vectors.specs.PickedColumns.{first_col}
use Rattle.chunk_filter.specs.declared.predicate.Vectorized.{Vectorized}
use Rattle.chunk_filter.specs.declared.predicate.Predicate.{Predicate}
use Rattle.chunk_filter.specs.declared.predicate.Predicate.TheVariants.{Compare, Range, Present, Absent, Near}
use Rattle.chunk_filter.specs.Asking.{IsThere, IsVectorized, asks, holds_on, is_compared, is_in_range}

-- a question that is the whole of its formula
exact : (f : Formula) (test : Predicate) → ((o : Obj) → asks test o ≡ holds_on f o)
    → ((columns : ℕ) → 4 ≤ columns → IsTrue (is_sound_formula (has_col columns false) f) → IsThere columns test)
    → IsVectorized f (record { test = test; whole = true })
exact f test said there = record { kept = λ o h. said o ∙ h; whole = λ w o. said o; there = there }

-- a column that can be computed is there
col_there : (columns col : ℕ) (t : Term) → t ≡ Column (first_col col) → is_sound_at (has_col columns false) t ≡ true → col < columns
col_there columns col t is sound =
    let here : is_sound_at (has_col columns false) (Column (first_col col)) ≡ true = subst (λ t. is_sound_at (has_col columns false) t ≡ true) is sound in
    let listed = (and_parts (has_col columns false (first_col col) && true) (nat_le (widest_at (Column (first_col col))) most) here).0 in
    let has = (and_parts (has_col columns false (first_col col)) true listed).0 in
    let below : nat_lt col columns ≡ true = (and_parts (nat_lt col columns) true has).0 in
    grind (arith, below)

compared_is : (op : Cmp) (n : ℤ) (v : Option ℤ) → is_compared op n v ≡ is_true (compared op v (Some n))
compared_is op n None = refl
compared_is op n (Some z) = refl

-- a column compared with a number
pub compare_vectorized : (op : Cmp) (t u : Term) (col : ℕ) (n : ℤ) → t ≡ Column (first_col col) → ((cells : BoundCol → Option ℤ) → value_at cells u ≡ Some n)
    → IsVectorized (Compares op t u) (record { test = Compare col op n; whole = true })
compare_vectorized op t u col n is number =
    exact (Compares op t u) (Compare col op n)
    (λ o. compared_is op n (cell o col)
    ∙ (ap (λ v. is_true (compared op (cell o col) v)) (sym (number (cell_of (row o))))
    ∙ ap (λ t. is_true (compared op (value_at (cell_of (row o)) t) (value_at (cell_of (row o)) u))) (sym is)))
    (λ columns four sound. col_there columns col t is (and_parts _ _ sound).0)

-- a number compared with a column
pub mirrored_vectorized : (op : Cmp) (t u : Term) (col : ℕ) (n : ℤ) → u ≡ Column (first_col col) → ((cells : BoundCol → Option ℤ) → value_at cells t ≡ Some n)
    → IsVectorized (Compares op t u) (record { test = Compare col (mirrored op) n; whole = true })
mirrored_vectorized op t u col n is number =
    exact (Compares op t u) (Compare col (mirrored op) n)
    (λ o. compared_is (mirrored op) n (cell o col)
    ∙ (ap is_true (mirrored_compares op (Some n) (cell o col))
    ∙ (ap (λ v. is_true (compared op v (cell o col))) (sym (number (cell_of (row o))))
    ∙ ap (λ u. is_true (compared op (value_at (cell_of (row o)) t) (value_at (cell_of (row o)) u))) (sym is))))
    (λ columns four sound. col_there columns col u is (and_parts _ _ sound).1)

range_is : (a b : ℤ) (v : Option ℤ) → is_in_range a b v ≡ is_true (truth_and (compared AtMost (Some a) v) (compared AtMost v (Some b)))
range_is a b None = refl
range_is a b (Some z) = both (int_le a z) (int_le z b)
  where
    both : (p q : Bool) → (p && q) ≡ is_true (truth_and (Some p) (Some q))
    both true q = refl
    both false q = refl

-- a column between two numbers
pub between_vectorized : (low value high : Term) (col : ℕ) (a b : ℤ) → value ≡ Column (first_col col) → ((cells : BoundCol → Option ℤ) → value_at cells low ≡ Some a)
    → ((cells : BoundCol → Option ℤ) → value_at cells high ≡ Some b)
    → IsVectorized (And (Compares AtMost low value) (Compares AtMost value high)) (record { test = Range col a b; whole = true })
between_vectorized low value high col a b is from to =
    exact (And (Compares AtMost low value) (Compares AtMost value high)) (Range col a b)
    (λ o. range_is a b (cell o col)
    ∙ (ap (λ v. is_true (truth_and (compared AtMost v (cell o col)) (compared AtMost (cell o col) (Some b)))) (sym (from (cell_of (row o))))
    ∙ (ap (λ v. is_true (truth_and (compared AtMost (value_at (cell_of (row o)) low) (cell o col)) (compared AtMost (cell o col) v))) (sym (to (cell_of (row o))))
    ∙ ap (λ t. is_true (truth_and (compared AtMost (value_at (cell_of (row o)) low) (value_at (cell_of (row o)) t))
    (compared AtMost (value_at (cell_of (row o)) t) (value_at (cell_of (row o)) high)))) (sym is))))
    (λ columns four sound. col_there columns col value is (and_parts _ _ (and_parts _ _ sound).0).1)

some_is : (v : Option ℤ) → is_some v ≡ is_true (truth_not (Some (is_none v)))
some_is None = refl
some_is (Some z) = refl

-- whether a column has a value
pub present_vectorized : (t : Term) (col : ℕ) → t ≡ Column (first_col col) → IsVectorized (negated_if true (IsNull t)) (record { test = Present col; whole = true })
present_vectorized t col is =
    exact (Not (IsNull t)) (Present col)
    (λ o. some_is (cell o col) ∙ ap (λ t. is_true (truth_not (Some (is_none (value_at (cell_of (row o)) t))))) (sym is))
    (λ columns four sound. col_there columns col t is sound)

pub absent_vectorized : (t : Term) (col : ℕ) → t ≡ Column (first_col col) → IsVectorized (negated_if false (IsNull t)) (record { test = Absent col; whole = true })
absent_vectorized t col is =
    exact (IsNull t) (Absent col) (λ o. ap (λ t. is_none (value_at (cell_of (row o)) t)) (sym is))
    (λ columns four sound. col_there columns col t is sound)

-- areas
pub band_vectorized : (lo hi : ℤ) → IsVectorized (LiesIn (Band lo hi)) (record { test = Range 3 lo hi; whole = true })
band_vectorized lo hi = exact (LiesIn (Band lo hi)) (Range 3 lo hi) (λ o. refl) (λ columns four sound. omega (arith, four))

pub cap_vectorized : (centre : Pos) (n : ℤ) → IsVectorized (LiesIn (Cap centre n)) (record { test = Near centre n; whole = true })
cap_vectorized centre n = exact (LiesIn (Cap centre n)) (Near centre n) (λ o. refl) (λ columns four sound. tt)

pub box_vectorized : (lo hi : ℤ) (a b : Dir) → IsVectorized (LiesIn (Boxed lo hi a b)) (record { test = Range 3 lo hi; whole = false })
box_vectorized lo hi a b = record {
  kept = λ o h. (and_parts (in_band lo hi o.at.z) (between_dirs a b o.at) h).0;
  whole = λ w o. absurd cc;
  there = λ columns four sound. omega (arith, four);
}

-- a condition without NOT is its predicate
pub plain_cond : (c : BoundCond) (e : Vectorized) → (out-BoundCond c).not ≡ false → IsVectorized (formula_of_pred (out-BoundCond c).pred) e → IsVectorized (formula_of c) e
plain_cond c e is h =
    subst (λ f. IsVectorized f e)
    (sym (cond_parts c ∙ ap (λ b. negated_if b (formula_of_pred (out-BoundCond c).pred)) is)) h
