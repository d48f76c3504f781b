-- The walk round the square by its five parts.
use Rattle.std.proofs.Common.{◌≡◌, ℕ, ℤ, pos, ◌*◌, ◌≤◌, ◌<◌, ◌+ℤ◌, ◌-ℤ◌, ◌≤ℤ◌, ◌<ℤ◌, arith, refl, ap, inl, inr, lt-ltb, le-ltb}
use Rattle.std.proofs.lemmas.Bool.{cases_lt}
use Rattle.std.proofs.lemmas.Int.{ints}
use lib.IntN.{neg_ℤ}
use Rattle.wedge_rules.specs.Heading.{towards, walk, past}
use Rattle.wedge_rules.proofs.Sides.{side_right, side_top, side_left, side_bottom}

-- the steps on the upper half of the right side
pub walk_right : (n s : ℕ) → s < n → walk n s ≡ towards (pos n) (pos s)
unfolding walk
walk_right n s h = rw (lt-ltb s n h) refl

-- on the upper side
pub walk_top : (n s : ℕ) → n ≤ s → s < 3 * n → walk n s ≡ towards (neg_ℤ (pos s -ℤ pos (2 * n))) (pos n)
unfolding walk
walk_top n s h k =
    let e : pos (2 * n) -ℤ pos s ≡ neg_ℤ (pos s -ℤ pos (2 * n)) = omega (arith, ints) in
    rw (le-ltb s n h, lt-ltb s (3 * n) k, e) refl

-- on the left side
pub walk_left : (n s : ℕ) → 3 * n ≤ s → s < 5 * n → walk n s ≡ towards (neg_ℤ (pos n)) (neg_ℤ (pos s -ℤ pos (4 * n)))
unfolding walk
walk_left n s h k =
    let e : pos (4 * n) -ℤ pos s ≡ neg_ℤ (pos s -ℤ pos (4 * n)) = omega (arith, ints) in
    rw (le-ltb s n (omega (arith, h)), le-ltb s (3 * n) h, lt-ltb s (5 * n) k, e) refl

-- on the lower side
pub walk_bottom : (n s : ℕ) → 5 * n ≤ s → s < 7 * n → walk n s ≡ towards (pos s -ℤ pos (6 * n)) (neg_ℤ (pos n))
unfolding walk
walk_bottom n s h k = rw (le-ltb s n (omega (arith, h)), le-ltb s (3 * n) (omega (arith, h)), le-ltb s (5 * n) h, lt-ltb s (7 * n) k) refl

-- on the lower half of the right side
pub walk_right_again : (n s : ℕ) → 7 * n ≤ s → walk n s ≡ towards (pos n) (pos s -ℤ pos (8 * n))
unfolding walk
walk_right_again n s h = rw (le-ltb s n (omega (arith, h)), le-ltb s (3 * n) (omega (arith, h)), le-ltb s (5 * n) (omega (arith, h)), le-ltb s (7 * n) h) refl

-- on which side step t stands, r steps from the side's middle
pub data Side (n t : ℕ) : Type 0 where
  on_right : (r : ℤ) → pos t ≡ r → neg_ℤ (pos n) ≤ℤ r → r <ℤ pos n → ((x y : ℤ) → past (walk n t) x y ≡ side_right (pos n) r x y) → Side n t
  on_top : (r : ℤ) → pos t ≡ r +ℤ pos (2 * n) → neg_ℤ (pos n) ≤ℤ r → r <ℤ pos n → ((x y : ℤ) → past (walk n t) x y ≡ side_top (pos n) r x y) → Side n t
  on_left : (r : ℤ) → pos t ≡ r +ℤ pos (4 * n) → neg_ℤ (pos n) ≤ℤ r → r <ℤ pos n → ((x y : ℤ) → past (walk n t) x y ≡ side_left (pos n) r x y) → Side n t
  on_bottom : (r : ℤ) → pos t ≡ r +ℤ pos (6 * n) → neg_ℤ (pos n) ≤ℤ r → r <ℤ pos n → ((x y : ℤ) → past (walk n t) x y ≡ side_bottom (pos n) r x y) → Side n t
  on_right_again : (r : ℤ) → pos t ≡ r +ℤ pos (8 * n) → neg_ℤ (pos n) ≤ℤ r → r ≤ℤ pos 0 → ((x y : ℤ) → past (walk n t) x y ≡ side_right (pos n) r x y) → Side n t

-- each step stands on a side
pub at_step : (n t : ℕ) → t ≤ 8 * n → Side n t
at_step n t h = elim (cases_lt t n) [
  | inl a ↦ on_right (pos t) refl (omega (arith, ints)) (omega (arith, ints)) (λ x y. ap (λ d. past d x y) (walk_right n t a))
  | inr a ↦ elim (cases_lt t (3 * n)) [
    | inl b ↦ on_top (pos t -ℤ pos (2 * n)) (omega (arith, ints)) (omega (arith, ints)) (omega (arith, ints)) (λ x y. ap (λ d. past d x y) (walk_top n t a b))
    | inr b ↦ elim (cases_lt t (5 * n)) [
      | inl c ↦ on_left (pos t -ℤ pos (4 * n)) (omega (arith, ints)) (omega (arith, ints)) (omega (arith, ints)) (λ x y. ap (λ d. past d x y) (walk_left n t b c))
      | inr c ↦ elim (cases_lt t (7 * n)) [
        | inl d ↦ on_bottom (pos t -ℤ pos (6 * n)) (omega (arith, ints)) (omega (arith, ints)) (omega (arith, ints)) (λ x y. ap (λ d. past d x y) (walk_bottom n t c d))
        | inr d ↦ on_right_again (pos t -ℤ pos (8 * n)) (omega (arith, ints)) (omega (arith, ints)) (omega (arith, ints)) (λ x y. ap (λ d. past d x y) (walk_right_again n t d))
      ]
    ]
  ]
]
