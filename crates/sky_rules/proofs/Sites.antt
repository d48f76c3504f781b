-- Where the chunks of a list of stripes stand.
use Rattle.std.proofs.Common.{◌≡◌, ℕ, pos, ◌+◌, ◌-◌, ◌≤◌, ◌<◌, ◌+ℤ◌, ◌≤ℤ◌, arith, refl, inl, inr, subst, sym, List, [], ◌∷◌, lt-ltb, le-ltb}
use Rattle.std.specs.Prelude.{All}
use Rattle.std.proofs.lemmas.Bool.{cases_lt}
use Rattle.std.proofs.lemmas.Int.{ints}
use Rattle.std.proofs.lemmas.List.Elements.{All-head, All-tail}
use Rattle.std.proofs.lemmas.List.Sums.{sum_by-cons}
use Rattle.sky_rules.specs.Partition.{Stripe, Site, floor_of, chunks_in, site_in}
use Rattle.sky_rules.specs.Limits.{IsStripe, AreHigh}

-- a site within the limits, of a chunk that there is
pub record IsSite (site : Site) : Type 0 where
  pub stripe : IsStripe site.stripe
  pub high : (site.stripe.z_low +ℤ pos 64) ≤ℤ site.end
  pub wedge : site.wedge < site.stripe.chunks

-- the site of a chunk of the first stripe
abbrev pub first_site : Stripe → List Stripe → ℕ → Site
first_site s rest c = record { stripe = s; end = floor_of rest; wedge = c }

-- a number below the first stripe's count is a chunk of it
pub site_here : (s : Stripe) (rest : List Stripe) (c : ℕ) → c < s.chunks → site_in (s ∷ rest) c ≡ first_site s rest c
site_here s rest c h = rw (lt-ltb c s.chunks h) refl

-- any other is a chunk of the stripes behind it
pub site_later : (s : Stripe) (rest : List Stripe) (c : ℕ) → s.chunks ≤ c → site_in (s ∷ rest) c ≡ site_in rest (c - s.chunks)
site_later s rest c h = rw (le-ltb c s.chunks h) refl

-- the chunks of the first stripe and those of the rest are all
pub chunks_more : (s : Stripe) (rest : List Stripe) → chunks_in (s ∷ rest) ≡ s.chunks + chunks_in rest
chunks_more s rest = sum_by-cons (λ (x : Stripe). x.chunks) s rest

-- each site is within the limits
pub site_is : (stripes : List Stripe) (c : ℕ) → AreHigh stripes → All IsStripe stripes → c < chunks_in stripes → IsSite (site_in stripes c)
site_is [] c high each h = absurd (omega (arith, h))
site_is (s ∷ rest) c high each h = elim (cases_lt c s.chunks) [
  | inl l ↦ subst IsSite (sym (site_here s rest c l)) (record { stripe = All-head IsStripe s rest each; high = high.0; wedge = l })
  | inr l ↦ subst IsSite (sym (site_later s rest c l)) (site_is rest (c - s.chunks) high.1 (All-tail IsStripe s rest each) (let all = chunks_more s rest in omega (arith, l, h, all)))
]

-- no site begins below the stripes
pub site_above : (stripes : List Stripe) (c : ℕ) → AreHigh stripes → floor_of stripes ≤ℤ (site_in stripes c).stripe.z_low
site_above [] c high = omega (arith, ints)
site_above (s ∷ rest) c high = elim (cases_lt c s.chunks) [
  | inl l ↦ subst (λ (site : Site). s.z_low ≤ℤ site.stripe.z_low) (sym (site_here s rest c l)) (omega (arith, ints))
  | inr l ↦
      let later = site_above rest (c - s.chunks) high.1 in
      let first = high.0 in
      subst (λ (site : Site). s.z_low ≤ℤ site.stripe.z_low) (sym (site_later s rest c l)) (omega (arith, ints, later, first))
]
