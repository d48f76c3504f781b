-- Neighbouring directions are less than half a turn apart: a direction is a point whose place is its own step.
use Rattle.std.proofs.Common.{◌≡◌, ℕ, ℤ, pos, ◌+◌, ◌*◌, ◌≤◌, ◌<◌, ◌+ℤ◌, ◌-ℤ◌, ◌*ℤ◌, ◌≤ℤ◌, ◌<ℤ◌, arith, inl, inr}
use Rattle.std.proofs.lemmas.Bool.{cases_lt}
use Rattle.std.proofs.lemmas.Int.{ints}
use borrow.Author.Differences.{up, down}
use lib.IntN.{neg_ℤ}
use Rattle.wedge_rules.specs.Heading.{Direction, walk, heading, past}
use Rattle.wedge_rules.specs.Laws.{LessThanHalfATurn}
use Rattle.sky_vector.proofs.Signed.{of, whole, of-pos, of-same, differences}
use Rattle.wedge_rules.proofs.Products.{order, swap}
use Rattle.wedge_rules.proofs.Sides.{OnRight}
use Rattle.wedge_rules.proofs.Walk.{at_step, walk_right, walk_top, walk_left, walk_bottom, walk_right_again}
use Rattle.wedge_rules.proofs.Quarters.{place_right, place_top, place_left, place_bottom}

-- the next one at differences
more_of : (a a' b b' : ℕ) → (of a a' +ℤ of 1 0) *ℤ of b b' ≡ (of a a' *ℤ of b b') +ℤ of b b'
more_of a a' b b' = simp differences (of-same _ _ _ _ (omega arith))

-- one more of a factor
more : (a b : ℤ) → (a +ℤ pos 1) *ℤ b ≡ (a *ℤ b) +ℤ b
more a b = rw (of-pos 1, whole a, whole b) (more_of (up a) (down a) (up b) (down b))

-- two minuses are none
neg_neg : (r : ℤ) → neg_ℤ (neg_ℤ r) ≡ r
neg_neg r = omega (arith, ints)

-- a step of the right side is its own place
own : (n : ℕ) (r : ℤ) → 0 < n → neg_ℤ (pos n) ≤ℤ r → r <ℤ pos n → OnRight n r (pos n) r
own n r hn lo hi =
    let e = order r (pos n) in
    let f = more r (pos n) in
    record {
      some = hn;
      ahead = omega (arith, ints, hn);
      left = lo;
      right = hi;
      low = omega (arith, ints, e);
      high = omega (arith, ints, e, f, hn);
      from = lo;
      to = hi;
    }

-- and so where a side is turned back to the right one
own_back : (n : ℕ) (r : ℤ) → 0 < n → neg_ℤ (pos n) ≤ℤ r → r <ℤ pos n → OnRight n r (pos n) (neg_ℤ (neg_ℤ r))
own_back n r hn lo hi = rw (neg_neg r) (own n r hn lo hi)

-- the same for the left side
own_far : (n : ℕ) (r : ℤ) → 0 < n → neg_ℤ (pos n) ≤ℤ r → r <ℤ pos n → OnRight n r (neg_ℤ (neg_ℤ (pos n))) (neg_ℤ (neg_ℤ r))
own_far n r hn lo hi = rw (neg_neg (pos n)) (own_back n r hn lo hi)

-- for the lower side
own_low : (n : ℕ) (r : ℤ) → 0 < n → neg_ℤ (pos n) ≤ℤ r → r <ℤ pos n → OnRight n r (neg_ℤ (neg_ℤ (pos n))) r
own_low n r hn lo hi = rw (neg_neg (pos n)) (own n r hn lo hi)

-- step t lies ahead of step s
abbrev Ahead : ℕ → ℕ → ℕ → Type 0
Ahead n s t = pos 0 <ℤ past (walk n s) (walk n t).dx (walk n t).dy

-- which the sign at t tells, for the point that s is
from_place : (n s t : ℕ) (d : Direction) → walk n s ≡ d → past (walk n t) d.dx d.dy <ℤ pos 0 → Ahead n s t
from_place n s t d e h = rw e (let f = swap d.dx d.dy (walk n t).dx (walk n t).dy in omega (arith, ints, f, h))

-- a later step lies ahead, while it is less than half the walk later
pub ahead_walk : (n s t : ℕ) → 0 < n → s < t → t ≤ 8 * n → t < s + 4 * n → Ahead n s t
ahead_walk n s t hn h end near = elim (cases_lt s n) [
  | inl a ↦ from_place n s t _ (walk_right n s a) ((place_right n t (pos s) (pos n) (pos s) (own n (pos s) hn (omega (arith, ints)) (omega (arith, ints, a))) (at_step n t end)).down (omega (arith, ints, h)) (omega (arith, ints, near)))
  | inr a ↦ elim (cases_lt s (3 * n)) [
    | inl b ↦ let r = pos s -ℤ pos (2 * n) in
        from_place n s t _ (walk_top n s a b) ((place_top n t r (neg_ℤ r) (pos n) (own_back n r hn (omega (arith, ints, a)) (omega (arith, ints, b))) (at_step n t end)).down (omega (arith, ints, h)) (omega (arith, ints, near)))
    | inr b ↦ elim (cases_lt s (5 * n)) [
      | inl c ↦ let r = pos s -ℤ pos (4 * n) in
          from_place n s t _ (walk_left n s b c) ((place_left n t r (neg_ℤ (pos n)) (neg_ℤ r) (own_far n r hn (omega (arith, ints, b)) (omega (arith, ints, c))) (at_step n t end)).down (omega (arith, ints, h)) (omega (arith, ints, near)))
      | inr c ↦ elim (cases_lt s (7 * n)) [
        | inl d ↦ let r = pos s -ℤ pos (6 * n) in
            from_place n s t _ (walk_bottom n s c d) ((place_bottom n t r r (neg_ℤ (pos n)) (own_low n r hn (omega (arith, ints, c)) (omega (arith, ints, d))) (at_step n t end)).down (omega (arith, ints, h)) (omega (arith, ints, near)))
        | inr d ↦ let r = pos s -ℤ pos (8 * n) in
            from_place n s t _ (walk_right_again n s d) ((place_right n t r (pos n) r (own n r hn (omega (arith, ints, d)) (omega (arith, ints, h, end, hn))) (at_step n t end)).down_again (omega (arith, ints, h)))
      ]
    ]
  ]
]

-- so does the next direction
pub less_than_half_a_turn : LessThanHalfATurn
unfolding heading
less_than_half_a_turn n k hn hk = ahead_walk n (8 * k) (8 * (k + 1)) (omega (arith, hn)) (omega arith) (omega (arith, hk)) (omega (arith, hn))
