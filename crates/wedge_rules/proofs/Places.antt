-- Each point off the axis has a place on the walk.
use Rattle.std.proofs.Common.{◌≡◌, ℕ, ℤ, pos, negsuc, ◌+◌, ◌*◌, ◌/◌, ◌-◌, ◌≤◌, ◌<◌, ◌+ℤ◌, ◌≤ℤ◌, ◌<ℤ◌, arith, refl, sym, ap, subst, inl, inr, ◌⊎◌}
use Rattle.std.proofs.Math.Nat.{lt-div-mul-add, div-mul-le_self}
use Rattle.std.proofs.lemmas.Bool.{cases_lt}
use Rattle.std.proofs.lemmas.Int.{ints}
use lib.IntN.{neg_ℤ}
use Rattle.wedge_rules.specs.Heading.{walk, past}
use Rattle.sky_vector.proofs.Signed.{of, of-pos, of-mul}
use Rattle.wedge_rules.proofs.Products.{int_cases, of-naturals}
use Rattle.wedge_rules.proofs.Sides.{OnRight}
use Rattle.wedge_rules.proofs.Walk.{at_step}
use Rattle.wedge_rules.proofs.Quarters.{SignAt, place_right, place_top, place_left, place_bottom}

-- differences in order
of_le : (p n q m : ℕ) → p + m ≤ q + n → of p n ≤ℤ of q m
of_le p n q m h = let e = of-naturals p n in let f = of-naturals q m in omega (arith, ints, e, f)

-- strictly
of_lt : (p n q m : ℕ) → p + m < q + n → of p n <ℤ of q m
of_lt p n q m h = let e = of-naturals p n in let f = of-naturals q m in omega (arith, ints, e, f)

-- one more
of_one : (p n : ℕ) → of p n +ℤ pos 1 ≡ of (p + 1) n
of_one p n = let e = of-naturals p n in let f = of-naturals (p + 1) n in omega (arith, ints, e, f)

-- a number below nothing
of_neg : (n : ℕ) → neg_ℤ (pos n) ≡ of 0 n
of_neg n = let e = of-naturals 0 n in omega (arith, ints, e)

-- the quotient that finds the step is below 2 n
pub below_two : (n x m q : ℕ) → 0 < n → m < 2 * x → q * x ≤ n * m → q < 2 * n
below_two n x m q some h low = elim (cases_lt q (2 * n)) [
  | inl l ↦ l
  | inr l ↦
      let e : q * x ≡ (2 * n + (q - 2 * n)) * x = ap (λ t. t * x) (omega arith) in
      let f : n * (2 * x) ≡ n * (m + 1 + (2 * x - (m + 1))) = ap (λ t. n * t) (omega arith) in
      omega (arith, e, f, low, some)
]

-- a point of the right side that is written by naturals has its step there
pub right_nat : (n x m q : ℕ) → 0 < n → 0 < x → m < 2 * x → q * x ≤ n * m → n * m < q * x + x → OnRight n (of q n) (of x 0) (of m x)
right_nat n x m q hn hx hm low high = record {
  some = hn;
  ahead = rw (of-pos 0) (of_lt 0 0 x 0 (omega arith));
  left = rw (sym (of-pos x), of_neg x) (of_le 0 x m x (omega arith));
  right = of_lt m x x 0 (omega arith);
  low = rw (of-pos n, of-mul q n x 0, of-mul n 0 m x) (of_le _ _ _ _ (omega (arith, low)));
  high = rw (of-pos n, of_one q n, of-mul (q + 1) n x 0, of-mul n 0 m x) (of_lt _ _ _ _ (omega (arith, high)));
  from = rw (of_neg n) (of_le 0 n q n (omega arith));
  to = rw (of-pos n) (of_lt q n n 0 (omega (arith, below_two n x m q hn hm low)));
}

-- a number from 0 on as a natural
pub steps : ℤ → ℕ
steps (pos n) = n
steps (negsuc n) = 0

-- which is that number
pub pos_steps : (z : ℤ) → pos 0 ≤ℤ z → pos (steps z) ≡ z
unfolding steps
pos_steps (pos n) h = refl
pos_steps (negsuc n) h = omega (arith, ints, h)

-- each point of the right side has its step there
pub right_place : (n : ℕ) (x y : ℤ) → 0 < n → neg_ℤ x ≤ℤ y → y <ℤ x → (there : ℤ) × OnRight n there x y
right_place n x y hn lo hi =
    let big = steps x in
    let m = steps (y +ℤ x) in
    let ax = pos_steps x (omega (arith, ints)) in
    let ay = pos_steps (y +ℤ x) (omega (arith, ints)) in
    let ex : of big 0 ≡ x = let e = of-naturals big 0 in omega (arith, ints, ax, e) in
    let ey : of m big ≡ y = let e = of-naturals m big in omega (arith, ints, ax, ay, e) in
    let hx : 0 < big = omega (arith, ints, ax) in
    let hm : m < 2 * big = omega (arith, ints, ax, ay) in
    let q = (n * m) / big in
    let p = right_nat n big m q hn hx hm (div-mul-le_self (n * m) big) (lt-div-mul-add hx) in
    (of q n, subst (λ v. OnRight n (of q n) v y) ex (subst (λ v. OnRight n (of q n) (of big 0) v) ey p))

-- the quarter in which a point lies
data Quarter (x y : ℤ) : Type 0 where
  to_right : neg_ℤ x ≤ℤ y → y <ℤ x → Quarter x y
  to_top : neg_ℤ y ≤ℤ neg_ℤ x → neg_ℤ x <ℤ y → Quarter x y
  to_left : neg_ℤ (neg_ℤ x) ≤ℤ neg_ℤ y → neg_ℤ y <ℤ neg_ℤ x → Quarter x y
  to_bottom : neg_ℤ (neg_ℤ y) ≤ℤ x → x <ℤ neg_ℤ y → Quarter x y

-- the point is not the axis
abbrev pub IsOffAxis : ℤ → ℤ → Type 0
IsOffAxis x y = ((x <ℤ pos 0) ⊎ (pos 0 <ℤ x)) ⊎ ((y <ℤ pos 0) ⊎ (pos 0 <ℤ y))

-- a point off the axis does not lie on both diagonals
pub not_both : (x y : ℤ) → IsOffAxis x y → x ≡ y → y ≤ℤ neg_ℤ x → x <ℤ neg_ℤ y
not_both x y (inl (inl h)) e l = omega (arith, ints)
not_both x y (inl (inr h)) e l = omega (arith, ints)
not_both x y (inr (inl h)) e l = omega (arith, ints)
not_both x y (inr (inr h)) e l = omega (arith, ints)

-- each point off the axis lies in a quarter
quarter_of : (x y : ℤ) → IsOffAxis x y → Quarter x y
quarter_of x y off = elim (int_cases y x) [
  | inl a ↦ elim (int_cases y (neg_ℤ x)) [
    | inl b ↦ to_bottom (omega (arith, ints, a)) (omega (arith, ints, b))
    | inr b ↦ to_right b a
  ]
  | inr a ↦ elim (int_cases (neg_ℤ x) y) [
    | inl b ↦ to_top (omega (arith, ints, a)) b
    | inr b ↦ elim (int_cases x y) [
      | inl c ↦ to_left (omega (arith, ints, b)) (omega (arith, ints, c))
      | inr c ↦ to_bottom (omega (arith, ints, c)) (not_both x y off (omega (arith, ints, a, c)) b)
    ]
  ]
]

-- a place of the point on the walk, from -n to below 7 n, with the sign at each step
pub record HasPlace (n : ℕ) (x y there : ℤ) : Type 0 where
  pub from : neg_ℤ (pos n) ≤ℤ there
  pub to : there <ℤ pos (7 * n)
  pub signs : (t : ℕ) → t ≤ 8 * n → SignAt n there t (past (walk n t) x y)

-- a point has one, by its quarter
has_place_in : (n : ℕ) (x y : ℤ) → 0 < n → Quarter x y → (there : ℤ) × HasPlace n x y there
has_place_in n x y hn (to_right lo hi) =
    let w = right_place n x y hn lo hi in
    (w.0 +ℤ pos 0, record { from = omega (arith, ints, w.1.from); to = omega (arith, ints, w.1.to); signs = λ t h. place_right n t w.0 x y w.1 (at_step n t h) })
has_place_in n x y hn (to_top lo hi) =
    let w = right_place n y (neg_ℤ x) hn lo hi in
    (w.0 +ℤ pos (2 * n), record { from = omega (arith, ints, w.1.from); to = omega (arith, ints, w.1.to); signs = λ t h. place_top n t w.0 x y w.1 (at_step n t h) })
has_place_in n x y hn (to_left lo hi) =
    let w = right_place n (neg_ℤ x) (neg_ℤ y) hn lo hi in
    (w.0 +ℤ pos (4 * n), record { from = omega (arith, ints, w.1.from); to = omega (arith, ints, w.1.to); signs = λ t h. place_left n t w.0 x y w.1 (at_step n t h) })
has_place_in n x y hn (to_bottom lo hi) =
    let w = right_place n (neg_ℤ y) x hn lo hi in
    (w.0 +ℤ pos (6 * n), record { from = omega (arith, ints, w.1.from); to = omega (arith, ints, w.1.to); signs = λ t h. place_bottom n t w.0 x y w.1 (at_step n t h) })

-- and so each point off the axis
pub has_place : (n : ℕ) (x y : ℤ) → 0 < n → IsOffAxis x y → (there : ℤ) × HasPlace n x y there
has_place n x y hn off = has_place_in n x y hn (quarter_of x y off)
