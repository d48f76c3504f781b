-- What a term is worth where NULL counts as 0 is small, and its value where it has one.
use Rattle.std.proofs.Common.{◌≡◌, ◌∙◌, ℕ, ◌≤◌, ℤ, ◌+ℤ◌, ◌-ℤ◌, ◌*ℤ◌, neg_ℤ, nat_abs, Option, Some, None, refl, sym, ap, subst, arith, if◌then◌else◌}
use Rattle.std.specs.Prelude.{option_map, is_some, ◌&&◌}
use Rattle.column_lists.specs.Columns.{or_zero}
use Rattle.sql_bound.specs.declared.expr.BoundCol.{BoundCol}
use Rattle.table_rules.specs.Objects.{Obj, IsRow}
use Rattle.value_rules.proofs.Ranges.{row_is_within}
use Rattle.value_rules.proofs.Within.{term_is_within}
use Rattle.value_rules.specs.Terms.{Term, Number, Column, Minus, Plus, Less, Times}
use Rattle.value_rules.specs.Values.{row, cell_of, of_both, value_at}
use Rattle.value_rules.specs.Widths.{IsOfSize, width_at}
use Rattle.column_vectors.specs.Totals.{number_at, number_on, is_known}

-- where each column has a number, a term has one too
total_value : (cells : BoundCol → ℤ) (t : Term) → value_at (λ c. Some (cells c)) t ≡ Some (number_at cells t)
total_value cells (Number n) = refl
total_value cells (Column c) = refl
total_value cells (Minus t) = ap (option_map neg_ℤ) (total_value cells t)
total_value cells (Plus t u) = rw (total_value cells t, total_value cells u) refl
total_value cells (Less t u) = rw (total_value cells t, total_value cells u) refl
total_value cells (Times t u) = rw (total_value cells t, total_value cells u) refl

zero_within : (n : ℕ) (v : Option ℤ) → IsOfSize n v → nat_abs (or_zero v) ≤ n
zero_within n None h = omega arith
zero_within n (Some z) h = h

-- the number of a term is no larger than its width
pub number_size : (o : Obj) → IsRow o → (t : Term) → nat_abs (number_on o t) ≤ width_at t
number_size o h t =
    subst (IsOfSize (width_at t)) (total_value (λ c. or_zero (cell_of (row o) c)) t)
    (term_is_within (λ c. Some (or_zero (cell_of (row o) c))) (λ c. zero_within _ _ (row_is_within o h c)) t)

-- NULL, or this number
pub IsWorth : Option ℤ → ℤ → Type 0
IsWorth None n = Unit {0}
IsWorth (Some z) n = z ≡ n

both_worth : (f : ℤ → ℤ → ℤ) (v w : Option ℤ) (a b : ℤ) → IsWorth v a → IsWorth w b → IsWorth (of_both f v w) (f a b)
unfolding IsWorth
both_worth f None w a b h k = tt
both_worth f (Some x) None a b h k = tt
both_worth f (Some x) (Some y) a b h k = ap (λ x. f x y) h ∙ ap (f a) k

minus_worth : (v : Option ℤ) (a : ℤ) → IsWorth v a → IsWorth (option_map neg_ℤ v) (neg_ℤ a)
unfolding IsWorth
minus_worth None a h = tt
minus_worth (Some z) a h = ap neg_ℤ h

cell_worth : (v : Option ℤ) → IsWorth v (or_zero v)
unfolding IsWorth
cell_worth None = tt
cell_worth (Some z) = refl

number_worth : (n : ℤ) → IsWorth (Some n) n
unfolding IsWorth
number_worth n = refl

-- a term that has a value is worth that value
worth : (cells : BoundCol → Option ℤ) (t : Term) → IsWorth (value_at cells t) (number_at (λ c. or_zero (cells c)) t)
worth cells (Number n) = number_worth n
worth cells (Column c) = cell_worth (cells c)
worth cells (Minus t) = minus_worth _ _ (worth cells t)
worth cells (Plus t u) = both_worth (λ a b. a +ℤ b) _ _ _ _ (worth cells t) (worth cells u)
worth cells (Less t u) = both_worth (λ a b. a -ℤ b) _ _ _ _ (worth cells t) (worth cells u)
worth cells (Times t u) = both_worth (λ a b. a *ℤ b) _ _ _ _ (worth cells t) (worth cells u)

shown_by : (v : Option ℤ) (n : ℤ) → IsWorth v n → (if is_some v then Some n else None) ≡ v
unfolding IsWorth
shown_by None n h = refl
shown_by (Some z) n h = ap Some (sym h)

-- the value of a term on a row is its number, where it has a value
pub shown : (o : Obj) (t : Term) → (if is_known o t then Some (number_on o t) else None) ≡ value_at (cell_of (row o)) t
shown o t = shown_by (value_at (cell_of (row o)) t) (number_on o t) (worth (cell_of (row o)) t)

-- what is computed of two values has a value where both have one
pub known_both : (f : ℤ → ℤ → ℤ) (v w : Option ℤ) → is_some (of_both f v w) ≡ (is_some v && is_some w)
known_both f None w = refl
known_both f (Some x) None = refl
known_both f (Some x) (Some y) = refl

pub known_minus : (v : Option ℤ) → is_some (option_map neg_ℤ v) ≡ is_some v
known_minus None = refl
known_minus (Some z) = refl
