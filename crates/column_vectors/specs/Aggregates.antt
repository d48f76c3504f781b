-- Aggregates of the values of some rows.
use Rattle.std.specs.Prelude.{ℕ, ◌+◌, ◌≤◌, ℤ, pos, int_le, nat_abs, ◌+ℤ◌, if◌then◌else◌, List, [], ◌∷◌, Option, None, Some, option_to_list, slice_range}
use Rattle.std.specs.List.{flat_map}
use Rattle.column_vectors.specs.declared.join.TheConstants.{NARROW_MOST}

-- the numbers among the values from one index up to another: NULL is none
abbrev pub numbers_between : List (Option ℤ) → ℕ → ℕ → List ℤ
numbers_between values from to = flat_map option_to_list (slice_range values from to)

-- a number combined with each of these, one after the other
abbrev pub joined_from : (ℤ → ℤ → ℤ) → ℤ → List ℤ → ℤ
joined_from op z [] = z
joined_from op z (y ∷ ys) = joined_from op (op z y) ys

-- these numbers combined, one after the other; None if there are none
abbrev pub joined_all : (ℤ → ℤ → ℤ) → List ℤ → Option ℤ
joined_all op [] = None
joined_all op (z ∷ zs) = Some (joined_from op z zs)

-- the sum of these numbers, 0 if there are none
abbrev pub sum_of : List ℤ → ℤ
sum_of zs = joined_from (λ a b. a +ℤ b) (pos 0) zs

-- the lesser of two numbers
abbrev pub lesser : ℤ → ℤ → ℤ
lesser a b = if int_le a b then a else b

-- the greater of two numbers
abbrev pub greater : ℤ → ℤ → ℤ
greater a b = if int_le a b then b else a

-- the result of two numbers is no larger in size than the larger of them
abbrev pub IsNoLarger : (ℤ → ℤ → ℤ) → Type 0
IsNoLarger op = (n : ℕ) (a b : ℤ) → nat_abs a ≤ n → nat_abs b ≤ n → nat_abs (op a b) ≤ n

-- a first number combined one after the other with the numbers from one index up to another never exceeds this size
abbrev pub StaysWithin : (ℤ → ℤ → ℤ) → ℕ → ℤ → List (Option ℤ) → ℕ → ℕ → Type 0
StaysWithin op limit first values from to =
    (i : ℕ) → from ≤ i → i ≤ to → nat_abs (joined_from op first (numbers_between values from i)) ≤ limit

-- the sum of at most the given number of adjacent values has 64 bits
abbrev pub AreSummed : ℕ → List (Option ℤ) → Type 0
AreSummed rows values = (from to : ℕ) → from ≤ to → to ≤ from + rows → nat_abs (sum_of (numbers_between values from to)) ≤ NARROW_MOST
