-- Stripes of a list by their numbers: where they begin and end, and where their chunks stand.
use Rattle.std.proofs.Common.{◌≡◌, ℕ, suc, zero, ℤ, ◌+◌, ◌-◌, ◌<◌, ◌≤◌, ◌≤ℤ◌, ◌∙◌, arith, refl, subst, sym, ap, List, [], ◌∷◌, length, take, drop, get_or}
use Rattle.std.specs.Prelude.{All}
use Rattle.std.proofs.lemmas.Int.{ints}
use Rattle.std.proofs.lemmas.List.Elements.{All-head, All-tail}
use Rattle.sky_rules.specs.Partition.{Stripe, Site, Partition, floor_of, sky_end, sky_bottom, chunks_in, site_in, site_of, chunk_count, nowhere}
use Rattle.sky_rules.specs.Limits.{IsStripe, IsSky, AreHigh}
use Rattle.sky_rules.proofs.Sites.{site_here, site_later, chunks_more}
use Rattle.sky_plan.specs.Plans.{stripe_numbered}
use Rattle.sky_plan.specs.Sites.{IsPlaced, site_numbered, end_numbered}

-- the site of a wedge of stripe i
abbrev site_by : List Stripe → ℕ → ℕ → Site
site_by stripes i w = record { stripe = get_or stripes i nowhere.stripe; end = floor_of (drop (suc i) stripes); wedge = w }

-- a stripe that there is does not hang on what stands for one that is not
pub get_or_same : (stripes : List Stripe) (i : ℕ) (d e : Stripe) → i < length stripes → get_or stripes i d ≡ get_or stripes i e
get_or_same [] i d e h = absurd (omega (arith, h))
get_or_same (s ∷ rest) zero d e h = refl
get_or_same (s ∷ rest) (suc i) d e h = get_or_same rest i d e (omega (arith, h))

-- stripes begin below the end of the sky
floor_below : (stripes : List Stripe) → AreHigh stripes → floor_of stripes ≤ℤ sky_end
floor_below [] high = omega (arith, ints)
floor_below (s ∷ rest) high =
    let up = floor_below rest high.1 in
    let first = high.0 in omega (arith, ints, up, first)

-- where stripe i begins is the floor of the stripes from i on
pub floor_at : (stripes : List Stripe) (i : ℕ) → i < length stripes → floor_of (drop i stripes) ≡ (get_or stripes i nowhere.stripe).z_low
floor_at [] i h = absurd (omega (arith, h))
floor_at (s ∷ rest) zero h = refl
floor_at (s ∷ rest) (suc i) h = floor_at rest i (omega (arith, h))

-- a later stripe does not begin lower
pub floor_up : (stripes : List Stripe) (i j : ℕ) → AreHigh stripes → i ≤ j → floor_of (drop i stripes) ≤ℤ floor_of (drop j stripes)
floor_up stripes zero zero high h = omega (arith, ints)
floor_up stripes (suc i) zero high h = absurd (omega (arith, h))
floor_up [] zero (suc j) high h = omega (arith, ints)
floor_up (s ∷ rest) zero (suc j) high h =
    let up = floor_up rest zero j high.1 (omega arith) in
    let first = high.0 in omega (arith, ints, up, first)
floor_up [] (suc i) (suc j) high h = omega (arith, ints)
floor_up (s ∷ rest) (suc i) (suc j) high h = floor_up rest i j high.1 (omega (arith, h))

-- the site of a wedge of stripe i is within the limits
placed_by : (stripes : List Stripe) (i w : ℕ) → AreHigh stripes → All IsStripe stripes → sky_bottom ≤ℤ floor_of stripes
    → i < length stripes → w < (get_or stripes i nowhere.stripe).chunks → IsPlaced (site_by stripes i w)
placed_by [] i w high each low h k = absurd (omega (arith, h))
placed_by (s ∷ rest) zero w high each low h k = record {
  stripe = All-head IsStripe s rest each;
  bottom = low;
  high = high.0;
  end = floor_below rest high.1;
  wedge = k;
}
placed_by (s ∷ rest) (suc i) w high each low h k =
    let first = high.0 in
    placed_by rest i w high.1 (All-tail IsStripe s rest each) (omega (arith, ints, low, first)) (omega (arith, h)) k

-- the chunk so many behind the first one of stripe i stands there
chunk_by : (stripes : List Stripe) (i w : ℕ) → i < length stripes → w < (get_or stripes i nowhere.stripe).chunks
    → site_in stripes (chunks_in (take i stripes) + w) ≡ site_by stripes i w
chunk_by [] i w h k = absurd (omega (arith, h))
chunk_by (s ∷ rest) zero w h k =
    let e : chunks_in (take 0 (s ∷ rest)) + w ≡ w = omega arith in
    subst (λ c. site_in (s ∷ rest) c ≡ site_by (s ∷ rest) zero w) (sym e) (site_here s rest w k)
chunk_by (s ∷ rest) (suc i) w h k =
    let more = chunks_more s (take i rest) in
    let e : chunks_in (s ∷ take i rest) + w - s.chunks ≡ chunks_in (take i rest) + w = omega (arith, more) in
    site_later s rest (chunks_in (s ∷ take i rest) + w) (omega (arith, more)) ∙ ap (λ c. site_in rest c) e ∙ chunk_by rest i w (omega (arith, h)) k

-- and is one of the chunks
counted_by : (stripes : List Stripe) (i w : ℕ) → i < length stripes → w < (get_or stripes i nowhere.stripe).chunks
    → chunks_in (take i stripes) + w < chunks_in stripes
counted_by [] i w h k = absurd (omega (arith, h))
counted_by (s ∷ rest) zero w h k = let all = chunks_more s rest in omega (arith, all, k)
counted_by (s ∷ rest) (suc i) w h k =
    let all = chunks_more s rest in
    let more = chunks_more s (take i rest) in
    let later = counted_by rest i w (omega (arith, h)) k in omega (arith, all, more, later)

-- the chunks below the next stripe are those below this one and its own
pub chunks_next : (stripes : List Stripe) (i : ℕ) → i < length stripes
    → chunks_in (take (suc i) stripes) ≡ chunks_in (take i stripes) + (get_or stripes i nowhere.stripe).chunks
chunks_next [] i h = absurd (omega (arith, h))
chunks_next (s ∷ rest) zero h = let more = chunks_more s [] in omega (arith, more)
chunks_next (s ∷ rest) (suc i) h =
    let upper = chunks_more s (take (suc i) rest) in
    let lower = chunks_more s (take i rest) in
    let later = chunks_next rest i (omega (arith, h)) in omega (arith, upper, lower, later)

-- fewer stripes have no more chunks
pub chunks_up : (stripes : List Stripe) (i j : ℕ) → i ≤ j → chunks_in (take i stripes) ≤ chunks_in (take j stripes)
chunks_up stripes zero j h = omega arith
chunks_up stripes (suc i) zero h = absurd (omega (arith, h))
chunks_up [] (suc i) (suc j) h = omega arith
chunks_up (s ∷ rest) (suc i) (suc j) h =
    let upper = chunks_more s (take j rest) in
    let lower = chunks_more s (take i rest) in
    let later = chunks_up rest i j (omega (arith, h)) in omega (arith, upper, lower, later)

-- no number of stripes has more than all the chunks
pub chunks_within : (stripes : List Stripe) (i : ℕ) → chunks_in (take i stripes) ≤ chunks_in stripes
chunks_within stripes zero = omega arith
chunks_within [] (suc i) = omega arith
chunks_within (s ∷ rest) (suc i) =
    let upper = chunks_more s rest in
    let lower = chunks_more s (take i rest) in
    let later = chunks_within rest i in omega (arith, upper, lower, later)

-- the stripe behind stripe i
next_number : (i : ℕ) → suc i ≡ i + 1
next_number i = omega arith

-- the site of a wedge of a numbered stripe is within the limits
pub placed_at : (g : Partition) (i w : ℕ) → IsSky g → i < length g.stripes → w < (stripe_numbered g i).chunks → IsPlaced (site_numbered g i w)
placed_at g i w sky h k =
    let bottom = sky.bottom in
    subst (λ n. IsPlaced (record { stripe = stripe_numbered g i; end = floor_of (drop n g.stripes); wedge = w })) (next_number i)
    (placed_by g.stripes i w sky.high sky.stripes (omega (arith, ints, bottom)) h k)

-- the chunk so many behind the first one of a numbered stripe stands there
pub chunk_at : (g : Partition) (i w : ℕ) → i < length g.stripes → w < (stripe_numbered g i).chunks
    → site_of g (chunks_in (take i g.stripes) + w) ≡ site_numbered g i w
chunk_at g i w h k =
    subst (λ n. site_of g (chunks_in (take i g.stripes) + w) ≡ record { stripe = stripe_numbered g i; end = floor_of (drop n g.stripes); wedge = w }) (next_number i)
    (chunk_by g.stripes i w h k)

-- and is one of the chunks
pub counted_at : (g : Partition) (i w : ℕ) → i < length g.stripes → w < (stripe_numbered g i).chunks
    → chunks_in (take i g.stripes) + w < chunk_count g
counted_at g i w h k = counted_by g.stripes i w h k

-- a chunk from the first one of a numbered stripe on, and before that of the next, stands there
pub chunk_with : (g : Partition) (i c : ℕ) → i < length g.stripes → chunks_in (take i g.stripes) ≤ c → c < chunks_in (take (i + 1) g.stripes)
    → (c - chunks_in (take i g.stripes) < (stripe_numbered g i).chunks) × (site_of g c ≡ site_numbered g i (c - chunks_in (take i g.stripes)))
chunk_with g i c h low high =
    let next = subst (λ n. chunks_in (take n g.stripes) ≡ chunks_in (take i g.stripes) + (stripe_numbered g i).chunks) (next_number i) (chunks_next g.stripes i h) in
    let k : c - chunks_in (take i g.stripes) < (stripe_numbered g i).chunks = omega (arith, low, high, next) in
    let e : chunks_in (take i g.stripes) + (c - chunks_in (take i g.stripes)) ≡ c = omega (arith, low) in
    (k, subst (λ n. site_of g n ≡ site_numbered g i (c - chunks_in (take i g.stripes))) e (chunk_at g i (c - chunks_in (take i g.stripes)) h k))

-- the site of a stripe and its end
pub same_site : (g : Partition) (i w : ℕ) (s : Stripe) (end : ℤ) → s ≡ stripe_numbered g i → end ≡ end_numbered g i
    → ◌≡◌ {A = Site} (record { stripe = s; end = end; wedge = w }) (site_numbered g i w)
same_site g i w s end e f = rw (e, f) refl
