-- Fine wedges: the planes of a chunk are planes of its subchunks, and a fine wedge lies in its wedge.
use Rattle.std.proofs.Common.{◌≡◌, ℕ, ℤ, pos, ◌+◌, ◌*◌, ◌≤◌, ◌<◌, ◌-ℤ◌, ◌*ℤ◌, ◌≤ℤ◌, ◌<ℤ◌, arith, refl, sym, ◌∙◌, ap, subst, inl, inr}
use Rattle.std.proofs.lemmas.Bool.{cases_lt}
use Rattle.std.proofs.lemmas.Int.{ints}
use lib.IntN.{neg_ℤ}
use Rattle.sky_vector.specs.Plane.{plane_product}
use Rattle.wedge_rules.specs.Heading.{towards, walk, heading, past, scaled, LiesBetween}
use Rattle.wedge_rules.specs.Laws.{PlanesAgree}
use Rattle.sky_vector.proofs.Signed.{of-pos, of-mul, of-same}
use Rattle.wedge_rules.proofs.Products.{int_cases, mul_neg, of-naturals, past_scaled, sign_up, sign_down, times_le, times_lt}
use Rattle.wedge_rules.proofs.Walk.{walk_right, walk_top, walk_left, walk_bottom, walk_right_again}
use Rattle.wedge_rules.proofs.Places.{IsOffAxis, has_place}
use Rattle.wedge_rules.proofs.OneWedge.{is_step, holds_between, only_at}

-- a coordinate that is a length, m times as long
long : (m a : ℕ) → pos (a * m) ≡ pos m *ℤ pos a
long m a = let e : a * m ≡ m * a = omega arith in ap pos e

-- one that is a distance from a middle
apart : (m s c k : ℕ) → pos (s * m) -ℤ pos (k * (c * m)) ≡ pos m *ℤ (pos s -ℤ pos (k * c))
apart m s c k = rw (of-naturals (s * m) (k * (c * m)), of-naturals s (k * c), of-pos m, of-mul m 0 s (k * c)) (of-same _ _ _ _ (omega arith))

-- directions are equal by their parts
same_direction : (a a' b b' : ℤ) → a ≡ a' → b ≡ b' → towards a b ≡ towards a' b'
same_direction a a' b b' e f = rw (e, f) refl

-- a square m times as large has each m-th step m times as far
walk_scaled : (c m s : ℕ) → 0 < m → walk (c * m) (s * m) ≡ scaled m (walk c s)
walk_scaled c m s hm = elim (cases_lt s c) [
  | inl a ↦ walk_right (c * m) (s * m) (times_lt s c m a hm) ∙ (same_direction _ _ _ _ (long m c) (long m s) ∙ sym (ap (scaled m) (walk_right c s a)))
  | inr a ↦ elim (cases_lt s (3 * c)) [
    | inl b ↦ let l = times_lt s (3 * c) m b hm in
        walk_top (c * m) (s * m) (times_le c s m a) (omega (arith, l)) ∙ (same_direction _ _ _ _ (ap neg_ℤ (apart m s c 2) ∙ sym (mul_neg (pos m) (pos s -ℤ pos (2 * c)))) (long m c) ∙ sym (ap (scaled m) (walk_top c s a b)))
    | inr b ↦ elim (cases_lt s (5 * c)) [
      | inl d ↦ let k = times_le (3 * c) s m b in let l = times_lt s (5 * c) m d hm in
          walk_left (c * m) (s * m) (omega (arith, k)) (omega (arith, l)) ∙ (same_direction _ _ _ _ (ap neg_ℤ (long m c) ∙ sym (mul_neg (pos m) (pos c))) (ap neg_ℤ (apart m s c 4) ∙ sym (mul_neg (pos m) (pos s -ℤ pos (4 * c)))) ∙ sym (ap (scaled m) (walk_left c s b d)))
      | inr d ↦ elim (cases_lt s (7 * c)) [
        | inl f ↦ let k = times_le (5 * c) s m d in let l = times_lt s (7 * c) m f hm in
            walk_bottom (c * m) (s * m) (omega (arith, k)) (omega (arith, l)) ∙ (same_direction _ _ _ _ (apart m s c 6) (ap neg_ℤ (long m c) ∙ sym (mul_neg (pos m) (pos c))) ∙ sym (ap (scaled m) (walk_bottom c s d f)))
        | inr f ↦ let k = times_le (7 * c) s m f in
            walk_right_again (c * m) (s * m) (omega (arith, k)) ∙ (same_direction _ _ _ _ (long m c) (apart m s c 8) ∙ sym (ap (scaled m) (walk_right_again c s f)))
      ]
    ]
  ]
]

-- so the planes agree
pub planes_agree : PlanesAgree
unfolding heading
planes_agree c m w hm = ap (walk (c * m)) (let e : 8 * (w * m) ≡ (8 * w) * m = omega arith in e) ∙ walk_scaled c m (8 * w) hm

-- the axis lies on every direction
pub past_axis : (a b x y : ℤ) → x ≡ pos 0 → y ≡ pos 0 → plane_product a b x y ≡ pos 0
past_axis a b x y e f = rw (e, f) (omega (arith, ints))

-- what lies short of a direction is off the axis
off_axis : (a b x y : ℤ) → plane_product a b x y <ℤ pos 0 → IsOffAxis x y
off_axis a b x y h = elim (int_cases x (pos 0)) [
  | inl l ↦ inl (inl l)
  | inr l ↦ elim (int_cases (pos 0) x) [
    | inl l' ↦ inl (inr l')
    | inr l' ↦ elim (int_cases y (pos 0)) [
      | inl k ↦ inr (inl k)
      | inr k ↦ elim (int_cases (pos 0) y) [
        | inl k' ↦ inr (inr k')
        | inr k' ↦ let e = past_axis a b x y (omega (arith, ints, l, l')) (omega (arith, ints, k, k')) in inr (inr (omega (arith, ints, e, h)))
      ]
    ]
  ]
]

-- between the directions of a fine wedge is between those of its wedge
abbrev pub FineBetween : Type 0
FineBetween = (c m w j : ℕ) (x y : ℤ) → 3 ≤ c → w < c → j < m → LiesBetween (c * m) (w * m + j) x y → LiesBetween c w x y

-- which is so: the place lies between the fine directions, hence between the wedge's
pub fine_between : FineBetween
unfolding heading
fine_between c m w j x y hc hw hj h =
    let hm : 0 < m = omega (arith, hj) in
    let n = c * m in
    let l3 = times_le 3 c m hc in
    let l1 = times_le (w + 1) c m (omega (arith, hw)) in
    let off = off_axis _ _ x y h.1 in
    let f = has_place n x y (omega (arith, l3, hm)) off in
    let v = is_step n f.0 f.1.from f.1.to in
    let k = w * m + j in
    let hk : k < n = omega (arith, l1, hj) in
    let o = only_at n f.0 v.0 k _ _ (omega (arith, l3, hm)) hk v.1 (f.1.signs (8 * k) (omega (arith, hk))) (f.1.signs (8 * (k + 1)) (omega (arith, hk))) h.0 h.1 in
    let g = holds_between n f.0 v.0 (8 * (w * m)) (8 * ((w + 1) * m)) _ _ (omega (arith, l3, hm)) v.1 (omega (arith, o.0)) (omega (arith, o.1, hj)) (f.1.signs (8 * (w * m)) (omega (arith, hk))) (f.1.signs (8 * ((w + 1) * m)) (omega (arith, l1))) in
    let p = ap (λ d. past d x y) (planes_agree c m w hm) ∙ past_scaled (pos m) (heading c w).dx (heading c w).dy x y in
    let q = ap (λ d. past d x y) (planes_agree c m (w + 1) hm) ∙ past_scaled (pos m) (heading c (w + 1)).dx (heading c (w + 1)).dy x y in
    (sign_up m _ hm (subst (λ z. pos 0 ≤ℤ z) p g.0), sign_down m _ (subst (λ z. z <ℤ pos 0) q g.1))
