-- The first lines of many: what a split around the line at a place leaves before it.
use Rattle.std.proofs.Common.{◌≡◌, ℕ, ◌≤◌, true, false, not, List, ◌∷◌, ◌++◌, length, count_by, Option, Some, ap, arith, Ordering, is_lt, is_eq, IsPermutation}
use Rattle.std.specs.Cmp.{IsTotalOrder}
use Rattle.std.specs.List.{AllByRecursion as Each}
use Rattle.std.specs.List.Sorted.{IsSplitAround}
use Rattle.std.proofs.lemmas.List.Elements.{All-from_get_or, All-from_recursion, recursion_from_All}
use Rattle.std.proofs.lemmas.List.Sorted.{IsPermutation-append_comm, IsPermutation-trans}
use Rattle.answer_rules.specs.Keeps.{AreApart, IsLate, KeepsFirst, is_up_to}
use Rattle.answer_rules.proofs.Orders.{count-append, count-permutation, count_all, each_weaker, not_below_on}

-- what is below none of n lines is none of the first n
late_behind : {X : Type 0} (cmp : X → X → Ordering) (n : ℕ) (front : List X) (z : X) → length front ≡ n → Each (λ f. is_lt (cmp z f) ≡ false) front → n ≤ count_by (is_up_to cmp z) front
late_behind cmp n front z l h =
    omega (arith, l, count_all (is_up_to cmp z) front (each_weaker (λ f. is_lt (cmp z f) ≡ false) (λ f. is_up_to cmp z f ≡ true) (λ f k. ap not k) front h))

-- the elements before the one at a place are the first
pub split_keeps : {X : Type 0} (cmp : X → X → Ordering) → IsTotalOrder cmp → (n : ℕ) (old front : List X) (x : X) (back : List X) → IsPermutation old (front ++ x ∷ back) → length front ≡ n → IsSplitAround cmp front x back → KeepsFirst cmp (Some n) old front
split_keeps {X} cmp o n old front x back p l s =
    let before : Each (λ f. is_lt (cmp x f) ≡ false) front = recursion_from_All (λ f. is_lt (cmp x f) ≡ false) front (All-from_get_or (λ f. is_lt (cmp x f) ≡ false) front x (λ i k. s.0 i x k)) in
    let after : Each (λ z. is_lt (cmp z x) ≡ false) back = recursion_from_All (λ z. is_lt (cmp z x) ≡ false) back (All-from_get_or (λ z. is_lt (cmp z x) ≡ false) back x (λ i k. s.1 i x k)) in
    let late : Each (IsLate cmp (Some n) front) back =
    each_weaker (λ z. is_lt (cmp z x) ≡ false) (IsLate cmp (Some n) front) (λ z h. late_behind cmp n front z l (each_weaker (λ f. is_lt (cmp x f) ≡ false) (λ f. is_lt (cmp z f) ≡ false) (λ f k. not_below_on o f x z k h) front before)) back after
    in
    record {
      left_out = x ∷ back;
      all = IsPermutation-trans _ _ _ p (IsPermutation-append_comm front (x ∷ back));
      late = All-from_recursion (IsLate cmp (Some n) front) (x ∷ back) (late_behind cmp n front x l before, late);
    }

-- what is kept of elements that are apart is apart
pub apart_kept : {X : Type 0} (cmp : X → X → Ordering) (limit : Option ℕ) (full kept : List X) → AreApart cmp full → KeepsFirst cmp limit full kept → AreApart cmp kept
apart_kept cmp limit full kept h k x =
    omega (arith, h x, count-permutation (λ y. is_eq (cmp x y)) full (k.left_out ++ kept) k.all, count-append (λ y. is_eq (cmp x y)) k.left_out kept)
