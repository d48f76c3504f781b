-- The greatest overlap of all stripes covers that of each chunk, and is within the limit of overlaps.
use Rattle.std.proofs.Common.{◌≡◌, ℕ, ◌+◌, ◌-◌, ◌<◌, ◌≤◌, ◌^◌, arith, refl, inl, inr, subst, sym, List, [], ◌∷◌, map}
use Rattle.std.specs.Prelude.{All, max}
use Rattle.std.specs.List.{fold}
use Rattle.std.proofs.lemmas.Bool.{cases_lt}
use Rattle.std.proofs.lemmas.List.Elements.{All-head, All-tail}
use Rattle.sky_rules.specs.Partition.{Stripe, Site, Partition, chunks_in, greatest_overlap, site_in}
use Rattle.sky_rules.specs.Limits.{IsStripe, IsSky}
use Rattle.sky_rules.proofs.Sites.{site_here, site_later, chunks_more}
use Rattle.sky_plan.specs.Plans.{CoversOverlaps}

-- the greatest of a number and the overlaps of stripes
most_from : ℕ → List Stripe → ℕ
most_from a stripes = fold max a (map (λ (s : Stripe). s.overlap) stripes)

-- a greatest number is not below either
left_within : (a b : ℕ) → a ≤ max a b
left_within a b = omega arith

right_within : (a b : ℕ) → b ≤ max a b
right_within a b = omega arith

both_below : (a b k : ℕ) → a ≤ k → b ≤ k → max a b ≤ k
both_below a b k h l = omega (arith, h, l)

-- it is not below the number
start_within : (a : ℕ) (stripes : List Stripe) → a ≤ most_from a stripes
unfolding most_from
start_within a [] = omega arith
start_within a (s ∷ rest) =
    let first = left_within a s.overlap in
    let later = start_within (max a s.overlap) rest in omega (arith, first, later)

-- nor below the overlap of any chunk of the stripes
chunk_within : (a : ℕ) (stripes : List Stripe) (c : ℕ) → c < chunks_in stripes → (site_in stripes c).stripe.overlap ≤ most_from a stripes
unfolding most_from
chunk_within a [] c h = absurd (omega (arith, h))
chunk_within a (s ∷ rest) c h = elim (cases_lt c s.chunks) [
  | inl l ↦
      let first = right_within a s.overlap in
      let later = start_within (max a s.overlap) rest in
      subst (λ (site : Site). site.stripe.overlap ≤ most_from a (s ∷ rest)) (sym (site_here s rest c l)) (omega (arith, first, later))
  | inr l ↦
      let all = chunks_more s rest in
      subst (λ (site : Site). site.stripe.overlap ≤ most_from a (s ∷ rest)) (sym (site_later s rest c l))
      (chunk_within (max a s.overlap) rest (c - s.chunks) (omega (arith, h, l, all)))
]

-- and at most a bound on all of them
most_below : (a k : ℕ) (stripes : List Stripe) → All IsStripe stripes → 2 ^ 24 ≤ k → a ≤ k → most_from a stripes ≤ k
unfolding most_from
most_below a k [] each lim h = h
most_below a k (s ∷ rest) each lim h =
    let here = (All-head IsStripe s rest each).overlap in
    most_below (max a s.overlap) k rest (All-tail IsStripe s rest each) lim (both_below a s.overlap k h (omega (arith, here, lim)))

covers_by : (stripes : List Stripe) (c : ℕ) → c < chunks_in stripes
    → (site_in stripes c).stripe.overlap ≤ greatest_overlap (record { stripes = stripes })
unfolding most_from
covers_by [] c h = absurd (omega (arith, h))
covers_by (s ∷ rest) c h = elim (cases_lt c s.chunks) [
  | inl l ↦
      subst (λ (site : Site). site.stripe.overlap ≤ most_from s.overlap rest) (sym (site_here s rest c l)) (start_within s.overlap rest)
  | inr l ↦
      let all = chunks_more s rest in
      subst (λ (site : Site). site.stripe.overlap ≤ most_from s.overlap rest) (sym (site_later s rest c l))
      (chunk_within s.overlap rest (c - s.chunks) (omega (arith, h, l, all)))
]

-- the greatest overlap covers that of each chunk
pub covers_overlaps : (g : Partition) → CoversOverlaps g (greatest_overlap g)
covers_overlaps g c h = covers_by g.stripes c h

limit_by : (stripes : List Stripe) → All IsStripe stripes → greatest_overlap (record { stripes = stripes }) ≤ 2 ^ 24
unfolding most_from
limit_by [] each = omega arith
limit_by (s ∷ rest) each =
    let here = (All-head IsStripe s rest each).overlap in
    most_below s.overlap (2 ^ 24) rest (All-tail IsStripe s rest each) (omega arith) here

-- and is within the limit
pub greatest_within : (g : Partition) → IsSky g → greatest_overlap g ≤ 2 ^ 24
greatest_within g sky = limit_by g.stripes sky.stripes
