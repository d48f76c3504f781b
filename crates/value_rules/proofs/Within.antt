-- Values are within their widths.
use Rattle.std.proofs.Common.{ℕ, ◌+◌, ◌*◌, ◌≤◌, ℤ, ◌+ℤ◌, ◌-ℤ◌, ◌*ℤ◌, neg_ℤ, nat_abs, Option, Some, None, arith}
use Rattle.std.specs.Prelude.{option_map}
use Rattle.std.proofs.lemmas.Int.{ints, unsigned_abs-mul}
use Rattle.std.proofs.lemmas.Nat.{mul-le}
use Rattle.sql_bound.specs.declared.expr.BoundCol.{BoundCol}
use Rattle.value_rules.specs.Terms.{term_of, Term, Number, Column, Minus, Plus, Less, Times}
use Rattle.value_rules.specs.Values.{of_both, value_at, cell_of}
use Rattle.value_rules.specs.Widths.{IsOfSize, width_at}
use Rattle.value_rules.specs.Laws.{ValueIsWithin}
use Rattle.table_rules.specs.Objects.{column_bound}

-- a sum of two is at most the sum of their sizes
sum_size : (a b : ℤ) → nat_abs (a +ℤ b) ≤ nat_abs a + nat_abs b
sum_size a b = grind (arith, ints)

difference_size : (a b : ℤ) → nat_abs (a -ℤ b) ≤ nat_abs a + nat_abs b
difference_size a b = grind (arith, ints)

minus_size : (n : ℕ) (v : Option ℤ) → IsOfSize n v → IsOfSize n (option_map neg_ℤ v)
minus_size n None h = tt
minus_size n (Some z) h = grind (arith, ints, h)

plus_size : (n m : ℕ) (v w : Option ℤ) → IsOfSize n v → IsOfSize m w → IsOfSize (n + m) (of_both (λ a b. a +ℤ b) v w)
plus_size n m None w h k = tt
plus_size n m (Some a) None h k = tt
plus_size n m (Some a) (Some b) h k = omega (arith, sum_size a b, h, k)

less_size : (n m : ℕ) (v w : Option ℤ) → IsOfSize n v → IsOfSize m w → IsOfSize (n + m) (of_both (λ a b. a -ℤ b) v w)
less_size n m None w h k = tt
less_size n m (Some a) None h k = tt
less_size n m (Some a) (Some b) h k = omega (arith, difference_size a b, h, k)

times_size : (n m : ℕ) (v w : Option ℤ) → IsOfSize n v → IsOfSize m w → IsOfSize (n * m) (of_both (λ a b. a *ℤ b) v w)
times_size n m None w h k = tt
times_size n m (Some a) None h k = tt
times_size n m (Some a) (Some b) h k = rw (unsigned_abs-mul a b) (mul-le _ _ n m h k)

pub term_is_within : (cells : BoundCol → Option ℤ) → ((c : BoundCol) → IsOfSize (nat_abs (column_bound c.col)) (cells c)) → (t : Term) → IsOfSize (width_at t) (value_at cells t)
term_is_within cells h (Number n) = omega arith
term_is_within cells h (Column c) = h c
term_is_within cells h (Minus t) = minus_size (width_at t) (value_at cells t) (term_is_within cells h t)
term_is_within cells h (Plus t u) = plus_size (width_at t) (width_at u) (value_at cells t) (value_at cells u) (term_is_within cells h t) (term_is_within cells h u)
term_is_within cells h (Less t u) = less_size (width_at t) (width_at u) (value_at cells t) (value_at cells u) (term_is_within cells h t) (term_is_within cells h u)
term_is_within cells h (Times t u) = times_size (width_at t) (width_at u) (value_at cells t) (value_at cells u) (term_is_within cells h t) (term_is_within cells h u)

pub value_is_within : ValueIsWithin
value_is_within e p h = term_is_within (cell_of p) h (term_of e)
