-- On which side of one step of the walk another one lies.
use Rattle.std.proofs.Common.{◌≡◌, ℕ, ℤ, pos, ◌+◌, ◌*◌, ◌≤◌, ◌<◌, ◌-ℤ◌, ◌≤ℤ◌, ◌<ℤ◌, arith, refl, sym, ◌∙◌, ap, subst, inl, inr}
use Rattle.std.proofs.lemmas.Bool.{cases_lt}
use Rattle.std.proofs.lemmas.Int.{ints}
use borrow.Author.Differences.{up, down}
use lib.IntN.{neg_ℤ}
use Rattle.sky_vector.specs.Plane.{plane_product}
use Rattle.sky_vector.proofs.Signed.{of, whole, of-same, of-zero, differences}
use Rattle.wedge_rules.specs.Heading.{Direction, towards, walk, past}
use Rattle.wedge_rules.proofs.Products.{swap}
use Rattle.wedge_rules.proofs.Walk.{walk_right, walk_top, walk_left, walk_bottom, walk_right_again}
use Rattle.wedge_rules.proofs.HalfTurn.{ahead_walk}
use Rattle.overlap_tables.specs.Windows.{IsNarrow, straight, round}
use Rattle.overlap_tables.proofs.FarLines.{Alike, ups, downs}

-- the opposite direction
abbrev back : Direction → Direction
back d = towards (neg_ℤ d.dx) (neg_ℤ d.dy)

same_direction : (a a' b b' : ℤ) → a ≡ a' → b ≡ b' → towards a b ≡ towards a' b'
same_direction a a' b b' e f = rw (e, f) refl

twice_back : (z : ℤ) → z ≡ neg_ℤ (neg_ℤ z)
twice_back z = omega (arith, ints)

-- half the walk later stands the opposite direction
half_later : (n s : ℕ) → 0 < n → s ≤ 4 * n → walk n (s + 4 * n) ≡ back (walk n s)
half_later n s some h = elim (cases_lt s n) [
  | inl a ↦
      let e : pos (s + 4 * n) -ℤ pos (4 * n) ≡ pos s = omega (arith, ints) in
      walk_left n (s + 4 * n) (omega (arith, some)) (omega (arith, a)) ∙ (same_direction _ _ _ _ refl (ap neg_ℤ e) ∙ sym (ap back (walk_right n s a)))
  | inr a ↦ elim (cases_lt s (3 * n)) [
    | inl b ↦
        let e : pos (s + 4 * n) -ℤ pos (6 * n) ≡ neg_ℤ (neg_ℤ (pos s -ℤ pos (2 * n))) = omega (arith, ints) in
        walk_bottom n (s + 4 * n) (omega (arith, a)) (omega (arith, b)) ∙ (same_direction _ _ _ _ e refl ∙ sym (ap back (walk_top n s a b)))
    | inr b ↦
        let e : pos (s + 4 * n) -ℤ pos (8 * n) ≡ neg_ℤ (neg_ℤ (pos s -ℤ pos (4 * n))) = omega (arith, ints) in
        walk_right_again n (s + 4 * n) (omega (arith, b)) ∙ (same_direction _ _ _ _ (twice_back (pos n)) e ∙ sym (ap back (walk_left n s b (omega (arith, h, some)))))
  ]
]

-- how far step t lies past step s, as their plane product
abbrev pub turn : ℕ → ℕ → ℕ → ℤ
turn n s t = past (walk n s) (walk n t).dx (walk n t).dy

back_of : (a a' b b' x x' y y' : ℕ) → plane_product (neg_ℤ (of a a')) (neg_ℤ (of b b')) (of x x') (of y y') ≡ neg_ℤ (plane_product (of a a') (of b b') (of x x') (of y y'))
back_of a a' b b' x x' y y' = simp differences (of-same _ _ _ _ (omega arith))

past_back : (a b x y : ℤ) → plane_product (neg_ℤ a) (neg_ℤ b) x y ≡ neg_ℤ (plane_product a b x y)
past_back a b x y = rw (whole a, whole b, whole x, whole y) (back_of (up a) (down a) (up b) (down b) (up x) (down x) (up y) (down y))

line_of : (a a' b b' : ℕ) → plane_product (of a a') (of b b') (of a a') (of b b') ≡ of 0 0
line_of a a' b b' = simp differences (of-same _ _ _ _ (omega arith))

-- a direction lies on its own line
on_line : (a b : ℤ) → plane_product a b a b ≡ pos 0
on_line a b = rw (whole a, whole b) (line_of (up a) (down a) (up b) (down b) ∙ of-zero)

against_of : (a a' b b' : ℕ) → plane_product (of a a') (of b b') (neg_ℤ (of a a')) (neg_ℤ (of b b')) ≡ of 0 0
against_of a a' b b' = simp differences (of-same _ _ _ _ (omega arith))

-- so does the opposite one
against : (a b : ℤ) → plane_product a b (neg_ℤ a) (neg_ℤ b) ≡ pos 0
against a b = rw (whole a, whole b) (against_of (up a) (down a) (up b) (down b) ∙ of-zero)

-- a step less than half the walk later lies past
pub turn_above : (n s t : ℕ) → 0 < n → s < t → t < s + 4 * n → t ≤ 8 * n → pos 0 <ℤ turn n s t
turn_above n s t some h near end = ahead_walk n s t some h end near

-- a step more than half the walk later, and not the whole, lies short
pub turn_below : (n s t : ℕ) → 0 < n → s + 4 * n < t → t < s + 8 * n → t ≤ 8 * n → turn n s t <ℤ pos 0
turn_below n s t some h near end =
    let later = ahead_walk n (s + 4 * n) t some h end (omega (arith, near)) in
    let e = ap (λ d. past d (walk n t).dx (walk n t).dy) (half_later n s some (omega (arith, h, end))) in
    let f = past_back (walk n s).dx (walk n s).dy (walk n t).dx (walk n t).dy in omega (arith, ints, later, e, f)

-- a step lies on its own line
turn_self : (n s t : ℕ) → s ≡ t → turn n s t ≡ pos 0
turn_self n s t e = subst (λ r. turn n s r ≡ pos 0) e (on_line (walk n s).dx (walk n s).dy)

-- so does the one half the walk later
turn_half : (n s t : ℕ) → 0 < n → s + 4 * n ≡ t → t ≤ 8 * n → turn n s t ≡ pos 0
turn_half n s t some e end =
    subst (λ r. turn n s r ≡ pos 0) e
    (ap (λ (d : Direction). past (walk n s) d.dx d.dy) (half_later n s some (omega (arith, e, end))) ∙ against (walk n s).dx (walk n s).dy)

-- the whole walk later stands the first direction again
walk_round : (n : ℕ) → 0 < n → walk n (8 * n) ≡ walk n 0
walk_round n some =
    let e : pos (8 * n) -ℤ pos (8 * n) ≡ pos 0 = omega (arith, ints) in
    walk_right_again n (8 * n) (omega arith) ∙ (same_direction _ _ _ _ refl e ∙ sym (walk_right n 0 some))

turn_round : (n s t : ℕ) → 0 < n → s ≡ 0 → t ≡ 8 * n → turn n s t ≡ pos 0
turn_round n s t some e f =
    rw (e, f) (ap (λ (d : Direction). past (walk n 0) d.dx d.dy) (walk_round n some) ∙ on_line (walk n 0).dx (walk n 0).dy)

-- up to half the walk later nothing lies short
pub turn_up : (n s t : ℕ) → 0 < n → s ≤ t → t ≤ s + 4 * n → t ≤ 8 * n → pos 0 ≤ℤ turn n s t
turn_up n s t some h near end = elim (cases_lt s t) [
  | inl a ↦ elim (cases_lt t (s + 4 * n)) [
    | inl b ↦ let later = turn_above n s t some a b end in omega (arith, ints, later)
    | inr b ↦ let half = turn_half n s t some (omega (arith, b, near)) end in omega (arith, ints, half)
  ]
  | inr a ↦ let same = turn_self n s t (omega (arith, a, h)) in omega (arith, ints, same)
]

-- from half the walk later on nothing lies past
pub turn_down : (n s t : ℕ) → 0 < n → s + 4 * n ≤ t → t ≤ 8 * n → turn n s t ≤ℤ pos 0
turn_down n s t some h end = elim (cases_lt (s + 4 * n) t) [
  | inl a ↦ elim (cases_lt t (s + 8 * n)) [
    | inl b ↦ let later = turn_below n s t some a b end in omega (arith, ints, later)
    | inr b ↦ let again = turn_round n s t some (omega (arith, b, end)) (omega (arith, b, end)) in omega (arith, ints, again)
  ]
  | inr a ↦ let half = turn_half n s t some (omega (arith, a, h)) end in omega (arith, ints, half)
]

-- seen from the other one it is the opposite
turn_back : (n s t : ℕ) → turn n t s ≡ neg_ℤ (turn n s t)
turn_back n s t = swap (walk n t).dx (walk n t).dy (walk n s).dx (walk n s).dy

-- Side j of n lies outside of the way from side a to side b, and outside of the way opposite to it.
pub data IsBeyond (n a b j : ℕ) : Type 0 where
  opposite_below : a < b → 2 * j + n ≤ 2 * a → IsBeyond n a b j
  before : a < b → j ≤ a → 2 * b ≤ 2 * j + n → IsBeyond n a b j
  after : a < b → b ≤ j → 2 * j ≤ 2 * a + n → IsBeyond n a b j
  opposite_above : a < b → 2 * b + n ≤ 2 * j → IsBeyond n a b j
  round_after : 2 * b + n < 2 * a → b ≤ j → 2 * j + n ≤ 2 * a → IsBeyond n a b j
  round_before : 2 * b + n < 2 * a → 2 * b + n ≤ 2 * j → j ≤ a → IsBeyond n a b j

-- a way that does not lead past the last side is less than half a turn
pub direct : (n a b : ℕ) → IsNarrow n a b → a < b → 2 * b < 2 * a + n
direct n a b (straight h k) l = k
direct n a b (round h) l = omega (arith, h, l)

-- so it lies past both sides or short of both
pub beyond_alike : (n a b j : ℕ) → IsNarrow n a b → a < n → b ≤ n → j ≤ n → IsBeyond n a b j
    → Alike (turn n (8 * a) (8 * j)) (turn n (8 * b) (8 * j))
beyond_alike n a b j is ha hb hj (after h low high) =
    let narrow = direct n a b is h in
    let some : 0 < n = omega (arith, ha) in
    let s = turn_up n (8 * a) (8 * j) some (omega (arith, h, low)) (omega (arith, high)) (omega (arith, hj)) in
    let t = turn_up n (8 * b) (8 * j) some (omega (arith, low)) (omega (arith, high, h)) (omega (arith, hj)) in
    ups s t (elim (cases_lt b j) [
      | inl l ↦ let more = turn_above n (8 * b) (8 * j) some (omega (arith, l)) (omega (arith, high, h)) (omega (arith, hj)) in omega (arith, ints, s, more)
      | inr l ↦ let more = turn_above n (8 * a) (8 * j) some (omega (arith, h, low)) (omega (arith, l, narrow)) (omega (arith, hj)) in omega (arith, ints, t, more)
    ])
beyond_alike n a b j is ha hb hj (opposite_above h low) =
    let narrow = direct n a b is h in
    let some : 0 < n = omega (arith, ha) in
    let s = turn_down n (8 * a) (8 * j) some (omega (arith, h, low)) (omega (arith, hj)) in
    let t = turn_down n (8 * b) (8 * j) some (omega (arith, low)) (omega (arith, hj)) in
    downs s t (elim (cases_lt j (a + n)) [
      | inl l ↦ let more = turn_below n (8 * a) (8 * j) some (omega (arith, h, low)) (omega (arith, l)) (omega (arith, hj)) in omega (arith, ints, t, more)
      | inr l ↦ let more = turn_below n (8 * b) (8 * j) some (omega (arith, l, narrow)) (omega (arith, hj, h)) (omega (arith, hj)) in omega (arith, ints, s, more)
    ])
beyond_alike n a b j is ha hb hj (before h low high) =
    let narrow = direct n a b is h in
    let some : 0 < n = omega (arith, ha) in
    let s = turn_up n (8 * j) (8 * a) some (omega (arith, low)) (omega (arith, high, h)) (omega (arith, h, hb)) in
    let t = turn_up n (8 * j) (8 * b) some (omega (arith, low, h)) (omega (arith, high)) (omega (arith, hb)) in
    let u = turn_back n (8 * j) (8 * a) in
    let v = turn_back n (8 * j) (8 * b) in
    downs (omega (arith, ints, s, u)) (omega (arith, ints, t, v)) (elim (cases_lt j a) [
      | inl l ↦ let more = turn_above n (8 * j) (8 * a) some (omega (arith, l)) (omega (arith, high, h)) (omega (arith, h, hb)) in omega (arith, ints, u, v, t, more)
      | inr l ↦ let more = turn_above n (8 * j) (8 * b) some (omega (arith, low, h)) (omega (arith, l, narrow)) (omega (arith, hb)) in omega (arith, ints, u, v, s, more)
    ])
beyond_alike n a b j is ha hb hj (opposite_below h low) =
    let narrow = direct n a b is h in
    let some : 0 < n = omega (arith, ha) in
    let s = turn_down n (8 * j) (8 * a) some (omega (arith, low)) (omega (arith, h, hb)) in
    let t = turn_down n (8 * j) (8 * b) some (omega (arith, low, h)) (omega (arith, hb)) in
    let u = turn_back n (8 * j) (8 * a) in
    let v = turn_back n (8 * j) (8 * b) in
    ups (omega (arith, ints, s, u)) (omega (arith, ints, t, v)) (elim (cases_lt b (j + n)) [
      | inl l ↦ let more = turn_below n (8 * j) (8 * b) some (omega (arith, low, h)) (omega (arith, l)) (omega (arith, hb)) in omega (arith, ints, s, u, v, more)
      | inr l ↦ let more = turn_below n (8 * j) (8 * a) some (omega (arith, l, narrow)) (omega (arith, h, hb)) (omega (arith, h, hb)) in omega (arith, ints, t, u, v, more)
    ])
beyond_alike n a b j is ha hb hj (round_after h low high) =
    let some : 0 < n = omega (arith, ha) in
    let s = turn_down n (8 * j) (8 * a) some (omega (arith, high)) (omega (arith, ha)) in
    let t = turn_up n (8 * b) (8 * j) some (omega (arith, low)) (omega (arith, high, ha)) (omega (arith, hj)) in
    let u = turn_back n (8 * j) (8 * a) in
    ups (omega (arith, ints, s, u)) t (elim (cases_lt b j) [
      | inl l ↦ let more = turn_above n (8 * b) (8 * j) some (omega (arith, l)) (omega (arith, high, ha)) (omega (arith, hj)) in omega (arith, ints, s, u, more)
      | inr l ↦ let more = turn_below n (8 * j) (8 * a) some (omega (arith, l, h)) (omega (arith, ha)) (omega (arith, ha)) in omega (arith, ints, t, u, more)
    ])
beyond_alike n a b j is ha hb hj (round_before h low high) =
    let some : 0 < n = omega (arith, ha) in
    let s = turn_up n (8 * j) (8 * a) some (omega (arith, high)) (omega (arith, low, ha)) (omega (arith, ha)) in
    let t = turn_down n (8 * b) (8 * j) some (omega (arith, low)) (omega (arith, hj)) in
    let u = turn_back n (8 * j) (8 * a) in
    downs (omega (arith, ints, s, u)) t (elim (cases_lt j a) [
      | inl l ↦ let more = turn_above n (8 * j) (8 * a) some (omega (arith, l)) (omega (arith, low, ha)) (omega (arith, ha)) in omega (arith, ints, t, u, more)
      | inr l ↦ let more = turn_below n (8 * b) (8 * j) some (omega (arith, l, h)) (omega (arith, high, ha)) (omega (arith, hj)) in omega (arith, ints, s, u, more)
    ])
