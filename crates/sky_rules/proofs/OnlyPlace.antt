-- In a list of stripes, each point between the bound of the first and the end of the sky has its only place.
use Rattle.std.proofs.Common.{◌≡◌, ℕ, ℤ, pos, ◌+◌, ◌-◌, ◌*◌, ◌≤◌, ◌<◌, ◌≤ℤ◌, ◌<ℤ◌, arith, inl, inr, subst, sym, true, List, [], ◌∷◌, int_le}
use Rattle.std.specs.Prelude.{All}
use Rattle.std.proofs.lemmas.Bool.{cases_lt, and_parts}
use Rattle.std.proofs.lemmas.Int.{ints}
use Rattle.std.proofs.lemmas.List.Elements.{All-head, All-tail}
use lib.IntN.{neg_ℤ}
use Rattle.sky_vector.specs.Points.{Point, IsAdmissible, square_of, square}
use Rattle.sky_vector.proofs.Signed.{square_up}
use Rattle.wedge_rules.proofs.Products.{int_cases, neg_mul, mul_neg}
use Rattle.wedge_rules.proofs.Tests.{le_from}
use Rattle.sky_rules.specs.Partition.{Stripe, Partition, Site, floor_of, sky_end, sky_bottom, chunks_in, site_in}
use Rattle.sky_rules.specs.Bounds.{chunk_bounds, sub_bounds, in_bounds}
use Rattle.sky_rules.specs.Limits.{IsStripe, IsSky, AreHigh}
use Rattle.sky_rules.specs.Laws.{ExactlyOnePlace, SubLiesInItsChunk, NearEnough}
use Rattle.sky_rules.proofs.Bounds.{holds_from}
use Rattle.sky_rules.proofs.Near.{below_root, near_from}
use Rattle.sky_rules.proofs.Sites.{site_here, site_later, site_is, site_above, chunks_more}
use Rattle.sky_rules.proofs.InStripe.{OnlyIn, only_in, HoldsChunk, chunk_from, chunk_to, sub_in_chunk}

-- the subchunks of a site
abbrev pub subs_at : Site → ℕ
subs_at site = site.stripe.rows * site.stripe.columns

-- The only place of a point in a list of stripes.
pub record OnlyAmong (stripes : List Stripe) (c i : ℕ) (p : Point) : Type 0 where
  pub chunk_there : c < chunks_in stripes
  pub sub_there : i < subs_at (site_in stripes c)
  pub in_its_chunk : in_bounds (chunk_bounds (site_in stripes c)) p ≡ true
  pub in_its_sub : in_bounds (sub_bounds (site_in stripes c) i) p ≡ true
  pub no_other_chunk : (d : ℕ) → d < chunks_in stripes → in_bounds (chunk_bounds (site_in stripes d)) p ≡ true → d ≡ c
  pub no_other_sub : (d k : ℕ) → d < chunks_in stripes → k < subs_at (site_in stripes d) → in_bounds (sub_bounds (site_in stripes d) k) p ≡ true → (d ≡ c) × (k ≡ i)

-- a list of stripes within the limits
pub record AreStripes (stripes : List Stripe) : Type 0 where
  pub high : AreHigh stripes
  pub each : All IsStripe stripes

-- so are the stripes behind the first
rest_are : (s : Stripe) (rest : List Stripe) → AreStripes (s ∷ rest) → AreStripes rest
rest_are s rest are = record { high = are.high.1; each = All-tail IsStripe s rest are.each }

-- what a chunk of the stripes holds is not below them
not_below : (stripes : List Stripe) (c : ℕ) (p : Point) → AreStripes stripes → c < chunks_in stripes
    → HoldsChunk (site_in stripes c) p → floor_of stripes ≤ℤ p.z
not_below stripes c p are h held =
    let bound = site_above stripes c are.high in
    let low = held.low in omega (arith, ints, bound, low)

-- what a subchunk of the stripes holds, its chunk holds
pub chunk_holds : (stripes : List Stripe) (c k : ℕ) (p : Point) → AreStripes stripes → c < chunks_in stripes → k < subs_at (site_in stripes c)
    → in_bounds (sub_bounds (site_in stripes c) k) p ≡ true → HoldsChunk (site_in stripes c) p
chunk_holds stripes c k p are h hk held = sub_in_chunk (site_in stripes c) k p (site_is stripes c are.high are.each h) hk held

-- what a chunk of the stripes holds, as facts
chunk_held : (stripes : List Stripe) (c : ℕ) (p : Point) → AreStripes stripes → c < chunks_in stripes
    → in_bounds (chunk_bounds (site_in stripes c)) p ≡ true → HoldsChunk (site_in stripes c) p
chunk_held stripes c p are h held = chunk_from (site_in stripes c) p (site_is stripes c are.high are.each h) held

-- a chunk that holds a point below the second stripe is one of the first
in_first : (s : Stripe) (rest : List Stripe) (c : ℕ) (p : Point) → AreStripes (s ∷ rest) → c < chunks_in (s ∷ rest) → p.z <ℤ floor_of rest
    → HoldsChunk (site_in (s ∷ rest) c) p → c < s.chunks
in_first s rest c p are h low held = elim (cases_lt c s.chunks) [
  | inl l ↦ l
  | inr l ↦
      let all = chunks_more s rest in
      let later = subst (λ (site : Site). HoldsChunk site p) (site_later s rest c l) held in
      let up = not_below rest (c - s.chunks) p (rest_are s rest are) (omega (arith, h, l, all)) later in
      omega (arith, ints, up, low)
]

-- a chunk that holds a point of the second stripe or above is none of the first
in_rest : (s : Stripe) (rest : List Stripe) (c : ℕ) (p : Point) → floor_of rest ≤ℤ p.z → HoldsChunk (site_in (s ∷ rest) c) p → s.chunks ≤ c
in_rest s rest c p up held = elim (cases_lt c s.chunks) [
  | inl l ↦
      let here = subst (λ (site : Site). HoldsChunk site p) (site_here s rest c l) held in
      let high = here.high in omega (arith, ints, high, up)
  | inr l ↦ l
]

-- the only place in the first stripe is the only one among all
among_first : (s : Stripe) (rest : List Stripe) (w i : ℕ) (p : Point) → AreStripes (s ∷ rest) → p.z <ℤ floor_of rest → OnlyIn s (floor_of rest) w i p → OnlyAmong (s ∷ rest) w i p
among_first s rest w i p are low o =
    let all = chunks_more s rest in
    let here = site_here s rest in
    let there = o.chunk_there in record {
      chunk_there = omega (arith, there, all);
      sub_there = subst (λ (site : Site). i < subs_at site) (sym (here w there)) o.sub_there;
      in_its_chunk = subst (λ (site : Site). in_bounds (chunk_bounds site) p ≡ true) (sym (here w there)) o.in_its_chunk;
      in_its_sub = subst (λ (site : Site). in_bounds (sub_bounds site i) p ≡ true) (sym (here w there)) o.in_its_sub;
      no_other_chunk = λ d hd held.
          let hf = in_first s rest d p are hd low (chunk_held (s ∷ rest) d p are hd held) in
          o.no_other_chunk d hf (subst (λ (site : Site). in_bounds (chunk_bounds site) p ≡ true) (here d hf) held);
      no_other_sub = λ d k hd hk held.
          let hf = in_first s rest d p are hd low (chunk_holds (s ∷ rest) d k p are hd hk held) in
          o.no_other_sub d k hf (subst (λ (site : Site). k < subs_at site) (here d hf) hk) (subst (λ (site : Site). in_bounds (sub_bounds site k) p ≡ true) (here d hf) held);
    }

-- the site of a chunk behind the first stripe
site_behind : (s : Stripe) (rest : List Stripe) (c : ℕ) → site_in (s ∷ rest) (s.chunks + c) ≡ site_in rest c
site_behind s rest c =
    let e : (s.chunks + c) - s.chunks ≡ c = omega arith in
    subst (λ n. site_in (s ∷ rest) (s.chunks + c) ≡ site_in rest n) e (site_later s rest (s.chunks + c) (omega arith))

-- the only place in the other stripes is the only one among all
among_rest : (s : Stripe) (rest : List Stripe) (c i : ℕ) (p : Point) → AreStripes (s ∷ rest) → floor_of rest ≤ℤ p.z → OnlyAmong rest c i p → OnlyAmong (s ∷ rest) (s.chunks + c) i p
among_rest s rest c i p are up o =
    let all = chunks_more s rest in
    let behind = site_behind s rest c in
    let later = site_later s rest in
    let there = o.chunk_there in record {
      chunk_there = omega (arith, there, all);
      sub_there = subst (λ (site : Site). i < subs_at site) (sym behind) o.sub_there;
      in_its_chunk = subst (λ (site : Site). in_bounds (chunk_bounds site) p ≡ true) (sym behind) o.in_its_chunk;
      in_its_sub = subst (λ (site : Site). in_bounds (sub_bounds site i) p ≡ true) (sym behind) o.in_its_sub;
      no_other_chunk = λ d hd held.
          let hr = in_rest s rest d p up (chunk_held (s ∷ rest) d p are hd held) in
          let same = o.no_other_chunk (d - s.chunks) (omega (arith, hd, hr, all)) (subst (λ (site : Site). in_bounds (chunk_bounds site) p ≡ true) (later d hr) held) in
          omega (arith, same, hr);
      no_other_sub = λ d k hd hk held.
          let hr = in_rest s rest d p up (chunk_holds (s ∷ rest) d k p are hd hk held) in
          let same = o.no_other_sub (d - s.chunks) k (omega (arith, hd, hr, all)) (subst (λ (site : Site). k < subs_at site) (later d hr) hk)
          (subst (λ (site : Site). in_bounds (sub_bounds site k) p ≡ true) (later d hr) held) in
          let first = same.0 in (omega (arith, first, hr), same.1);
    }

-- each point from the first stripe's bound to the end of the sky has its only place among the stripes
pub only_among : (stripes : List Stripe) (p : Point) → AreStripes stripes → floor_of stripes ≤ℤ p.z → p.z <ℤ sky_end → (c : ℕ) × ((i : ℕ) × OnlyAmong stripes c i p)
only_among [] p are lo hi = absurd (omega (arith, ints, lo, hi))
only_among (s ∷ rest) p are lo hi = elim (int_cases p.z (floor_of rest)) [
  | inl l ↦
      let o = only_in s (floor_of rest) p (record { stripe = All-head IsStripe s rest are.each; high = are.high.0 }) lo l in
      (o.0, (o.1.0, among_first s rest o.0 o.1.0 p are l o.1.1))
  | inr l ↦
      let o = only_among rest p (rest_are s rest are) l hi in
      (s.chunks + o.0, (o.1.0, among_rest s rest o.0 o.1.0 p are l o.1.1))
]

-- the stripes of a partition within the limits are
pub stripes_are : (g : Partition) → IsSky g → AreStripes g.stripes
stripes_are g sky = record { high = sky.high; each = sky.stripes }

-- a number and its opposite have one square
square_neg : (a : ℤ) → square (neg_ℤ a) ≡ square a
square_neg a =
    let outer = neg_mul a (neg_ℤ a) in
    let inner = mul_neg a a in omega (arith, ints, outer, inner)

-- the z of an admissible point is one of the sky
admissible_z : (p : Point) → IsAdmissible p → (sky_bottom ≤ℤ p.z) × (p.z <ℤ sky_end)
admissible_z p ok =
    let tests = and_parts (int_le (pos (268435440 * 268435440)) (square_of p)) (int_le (square_of p) (pos (268435472 * 268435472))) ok in
    let most = le_from (square_of p) (pos (268435472 * 268435472)) tests.1 in
    let x = square_up p.x in
    let y = square_up p.y in
    let z : square p.z ≤ℤ square (pos 268435472) = omega (arith, ints, most, x, y) in
    let turned = square_neg p.z in
    let minus : square (neg_ℤ p.z) ≤ℤ square (pos 268435472) = omega (arith, ints, turned, z) in
    let high = below_root p.z (pos 268435472) (omega (arith, ints)) z in
    let low = below_root (neg_ℤ p.z) (pos 268435472) (omega (arith, ints)) minus in (omega (arith, ints, low), omega (arith, ints, high))

-- each admissible point has exactly one place
pub exactly_one_place : ExactlyOnePlace
exactly_one_place g p sky ok =
    let z = admissible_z p ok in
    let bottom = sky.bottom in
    let o = only_among g.stripes p (stripes_are g sky) (subst (λ b. b ≤ℤ p.z) (sym bottom) z.0) z.1 in
    let a = o.1.1 in (
      o.0,
      (
        o.1.0,
        record {
          chunk_there = a.chunk_there;
          sub_there = a.sub_there;
          in_its_chunk = a.in_its_chunk;
          in_its_sub = a.in_its_sub;
          no_other_chunk = a.no_other_chunk;
          no_other_sub = a.no_other_sub;
        },
      ),
    )

-- what a subchunk holds, its chunk holds
pub sub_lies_in_its_chunk : SubLiesInItsChunk
sub_lies_in_its_chunk g c s p sky hc hs held =
    let are = stripes_are g sky in
    chunk_to (site_in g.stripes c) p (site_is g.stripes c are.high are.each hc) (chunk_holds g.stripes c s p are hc hs held)

-- what is near a point of a subchunk is in its near region, and in that of the chunk
pub near_enough : NearEnough
near_enough g c s u v sky hc hs held near =
    let chunk = sub_lies_in_its_chunk g c s u sky hc hs held in
    let site = site_in g.stripes c in (
      near_from site.stripe.overlap (sub_bounds site s) u v (holds_from (sub_bounds site s) u held) near,
      near_from site.stripe.overlap (chunk_bounds site) u v (holds_from (chunk_bounds site) u chunk) near,
    )
