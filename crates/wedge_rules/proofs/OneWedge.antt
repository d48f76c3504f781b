-- Exactly one wedge lies round the place of a point.
use Rattle.std.proofs.Common.{◌≡◌, ℕ, ℤ, pos, ◌+◌, ◌*◌, ◌/◌, ◌≤◌, ◌<◌, ◌+ℤ◌, ◌≤ℤ◌, ◌<ℤ◌, arith, inl, inr}
use Rattle.std.proofs.lemmas.Bool.{cases_lt}
use Rattle.std.proofs.lemmas.Int.{ints}
use lib.IntN.{neg_ℤ}
use Rattle.wedge_rules.specs.Heading.{walk, heading, past, LiesBetween}
use Rattle.wedge_rules.proofs.Products.{int_cases}
use Rattle.wedge_rules.proofs.Quarters.{SignAt}
use Rattle.wedge_rules.proofs.Places.{IsOffAxis, steps, pos_steps, has_place}

-- the place as a step below 8 n: a negative one counts 8 n more
pub data IsStep (n : ℕ) (there : ℤ) (s : ℕ) : Type 0 where
  here : pos s ≡ there → there <ℤ pos (7 * n) → IsStep n there s
  round : pos s ≡ there +ℤ pos (8 * n) → there <ℤ pos 0 → neg_ℤ (pos n) ≤ℤ there → IsStep n there s

-- each place is such a step
pub is_step : (n : ℕ) (there : ℤ) → neg_ℤ (pos n) ≤ℤ there → there <ℤ pos (7 * n) → (s : ℕ) × IsStep n there s
is_step n there lo hi = elim (int_cases there (pos 0)) [
  | inl a ↦ (steps (there +ℤ pos (8 * n)), round (pos_steps (there +ℤ pos (8 * n)) (omega (arith, ints, a, lo))) a lo)
  | inr a ↦ (steps there, here (pos_steps there a) hi)
]

-- the point lies between two steps, less than half a turn apart, that have its place between them
pub holds_between : (n : ℕ) (there : ℤ) (s a b : ℕ) (z w : ℤ) → b < a + 4 * n → IsStep n there s → a ≤ s → s < b → SignAt n there a z → SignAt n there b w → (pos 0 ≤ℤ z) × (w <ℤ pos 0)
holds_between n there s a b z w near (here e hi) lo up' p q = (p.up (omega (arith, ints, near, e, up')) (omega (arith, ints, e, lo)), q.down (omega (arith, ints, e, up')) (omega (arith, ints, e, lo, near)))
holds_between n there s a b z w near (round e neg low) lo up' p q = (p.up_again (omega (arith, ints, near, e, up')) (omega (arith, ints, e, lo)), q.down_again (omega (arith, ints, e, up')))

-- where the point lies between the directions of wedge j, the place does
pub only_at : (n : ℕ) (there : ℤ) (s j : ℕ) (z w : ℤ) → 3 ≤ n → j < n → IsStep n there s → SignAt n there (8 * j) z → SignAt n there (8 * (j + 1)) w → pos 0 ≤ℤ z → w <ℤ pos 0 → (8 * j ≤ s) × (s < 8 * j + 8)
only_at n there s j z w hn hj (here e hi) p q hz hw = elim (cases_lt s (8 * j)) [
  | inl a ↦ elim (cases_lt (8 * j) (s + 4 * n)) [
    | inl b ↦ let c = p.down (omega (arith, ints, a, e)) (omega (arith, ints, b, e)) in omega (arith, ints, c, hz)
    | inr b ↦ let c = q.up_again (omega (arith, ints, b, e)) (omega (arith, ints, e, hj)) in (omega (arith, ints, c, hw), omega (arith, ints, c, hw))
  ]
  | inr a ↦ elim (cases_lt s (8 * j + 8)) [
    | inl b ↦ (a, b)
    | inr b ↦ elim (cases_lt (8 * j + 4 * n) s) [
      | inl d ↦ let c = p.far_down (omega (arith, ints, d, e)) in (a, omega (arith, ints, c, hz))
      | inr d ↦ let c = q.up (omega (arith, ints, d, e)) (omega (arith, ints, b, e)) in (a, omega (arith, ints, c, hw))
    ]
  ]
]
only_at n there s j z w hn hj (round e neg low) p q hz hw = elim (cases_lt s (8 * j)) [
  | inl a ↦ let c = p.down_again (omega (arith, ints, a, e)) in (omega (arith, ints, c, hz), omega (arith, ints, c, hz))
  | inr a ↦ elim (cases_lt s (8 * j + 8)) [
    | inl b ↦ (a, b)
    | inr b ↦ elim (cases_lt (8 * j + 4 * n) s) [
      | inl d ↦ let c = p.down (omega (arith, ints, neg)) (omega (arith, ints, d, e)) in (a, omega (arith, ints, c, hz))
      | inr d ↦ let c = q.up_again (omega (arith, ints, d, e)) (omega (arith, ints, b, e)) in (a, omega (arith, ints, c, hw))
    ]
  ]
]

-- a step and the wedge that begins before it
pub eighth : (s : ℕ) → (8 * (s / 8) ≤ s) × (s < 8 * (s / 8) + 8)
eighth s = (omega arith, omega arith)

-- the step is below 8 n
pub step_end : (n : ℕ) (there : ℤ) (s : ℕ) → 0 < n → IsStep n there s → s < 8 * n
step_end n there s hn (here e hi) = omega (arith, ints, e, hi, hn)
step_end n there s hn (round e neg low) = omega (arith, ints, e, neg)

-- each point off the axis lies between the directions of exactly one wedge
abbrev pub OneBetween : Type 0
OneBetween = (n : ℕ) (x y : ℤ) → 3 ≤ n → IsOffAxis x y
    → (k : ℕ) × (k < n) × LiesBetween n k x y × ((j : ℕ) → j < n → LiesBetween n j x y → j ≡ k)

-- which is so
pub one_between : OneBetween
unfolding heading
one_between n x y hn off =
    let hn' : 0 < n = omega (arith, hn) in
    let f = has_place n x y hn' off in
    let w = is_step n f.0 f.1.from f.1.to in
    let s = w.0 in
    let d = eighth s in
    let k = s / 8 in
    let end = step_end n f.0 s hn' w.1 in
    let hk : k < n = omega (arith, d.0, end) in
    let at : (j : ℕ) → j < n → SignAt n f.0 (8 * j) (past (walk n (8 * j)) x y) = λ j h. f.1.signs (8 * j) (omega (arith, h)) in
    let next : (j : ℕ) → j < n → SignAt n f.0 (8 * (j + 1)) (past (walk n (8 * (j + 1))) x y) = λ j h. f.1.signs (8 * (j + 1)) (omega (arith, h)) in (
      k,
      hk,
      holds_between n f.0 s (8 * k) (8 * (k + 1)) _ _ (omega (arith, hn)) w.1 d.0 (omega (arith, d.1)) (at k hk) (next k hk),
      λ j hj h. let o = only_at n f.0 s j _ _ hn hj w.1 (at j hj) (next j hj) h.0 h.1 in omega (arith, o.0, o.1, d.0, d.1),
    )
