-- The chunks of a stripe that do not need a point, by their wedges and by their heights.
use Rattle.std.proofs.Common.{◌≡◌, ℕ, suc, zero, ℤ, pos, ◌+◌, ◌-◌, ◌≤◌, ◌<◌, ◌+ℤ◌, ◌-ℤ◌, ◌≤ℤ◌, ◌<ℤ◌, arith, refl, sym, ◌∙◌, ap, subst, inl, inr, Bool, true, false, ◌&&◌, not, int_le, List, [], ◌∷◌, ◌++◌, length, take, drop}
use Rattle.std.specs.List.{filter, range_with_len}
use Rattle.std.proofs.lemmas.Bool.{cases_lt}
use Rattle.std.proofs.lemmas.Int.{ints}
use Rattle.std.proofs.lemmas.List.{drop_all}
use Rattle.sky_vector.specs.Points.{Point}
use Rattle.sky_rules.specs.Partition.{Stripe, Site, Partition, chunk_count, chunks_in, floor_of, site_in, site_of, sky_end}
use Rattle.sky_rules.specs.Limits.{IsSky, AreHigh}
use Rattle.sky_rules.specs.Bounds.{Bounds, chunk_bounds, near_chunk, near_sides, near_bounds, sides_of, in_chunk}
use Rattle.sky_rules.proofs.Sites.{site_is, site_above, site_here, site_later, chunks_more}
use Rattle.sky_plan.specs.Plans.{CoversOverlaps, stripe_numbered}
use Rattle.sky_plan.specs.Sites.{SpansHeight, site_numbered}
use Rattle.sky_plan.proofs.Stripes.{chunk_at, chunks_next, chunks_within, chunks_up, floor_at, floor_up}
use Rattle.overlap_tables.specs.Overlaps.{in_full_overlap, near_others, others_between}
use Rattle.overlap_tables.specs.Heights.{HaveOthers, ReachesDown, ReachesUp, first_chunk}
use Rattle.overlap_tables.specs.Windows.{AreCandidates, IsLeftOut}
use Rattle.overlap_tables.proofs.Ranges.{then_gap, then_more, at_start, three_runs}

and_none : (b : Bool) → b && false ≡ false
and_none true = refl
and_none false = refl

-- a chunk that is not near a point does not need it
not_needed : (near held : Bool) → near ≡ false → near && not held ≡ false
not_needed near held e = rw e refl

-- a point apart from both sides of a part of the sky is not near it
bounds_apart : (r : ℕ) (bounds : Bounds) (p : Point) → near_sides r bounds.sides p ≡ false → near_bounds r bounds p ≡ false
bounds_apart r bounds p e =
    ap (λ b. (int_le (bounds.z_low -ℤ pos r) p.z && int_le p.z (bounds.z_high +ℤ pos r)) && b) e
    ∙ and_none (int_le (bounds.z_low -ℤ pos r) p.z && int_le p.z (bounds.z_high +ℤ pos r))

-- a chunk of a stripe does not need a point that is not near its wedge
pub wedge_apart : (g : Partition) (i k : ℕ) (p : Point) → i < length g.stripes → k < (stripe_numbered g i).chunks
    → near_sides (stripe_numbered g i).overlap (sides_of (stripe_numbered g i).chunks k) p ≡ false
    → in_full_overlap g (chunks_in (take i g.stripes) + k) p ≡ false
wedge_apart g i k p hi hk e =
    let at = bounds_apart (stripe_numbered g i).overlap (chunk_bounds (site_numbered g i k)) p e in
    not_needed (near_chunk g (chunks_in (take i g.stripes) + k) p) (in_chunk g (chunks_in (take i g.stripes) + k) p)
    (subst (λ (site : Site). near_bounds site.stripe.overlap (chunk_bounds site) p ≡ false) (sym (chunk_at g i k hi hk)) at)

-- the chunks of a stripe end where those of the next begin
pub stripe_ends : (g : Partition) (i : ℕ) → i < length g.stripes
    → chunks_in (take (i + 1) g.stripes) ≡ chunks_in (take i g.stripes) + (stripe_numbered g i).chunks
stripe_ends g i h =
    let next : suc i ≡ i + 1 = omega arith in
    subst (λ n. chunks_in (take n g.stripes) ≡ chunks_in (take i g.stripes) + (stripe_numbered g i).chunks) next (chunks_next g.stripes i h)

-- and are some of all chunks
pub stripe_within : (g : Partition) (i : ℕ) → i < length g.stripes → chunks_in (take i g.stripes) + (stripe_numbered g i).chunks ≤ chunk_count g
stripe_within g i h =
    let ends = stripe_ends g i h in
    let all = chunks_within g.stripes (i + 1) in omega (arith, ends, all)

le_not : (a b : ℤ) → b <ℤ a → int_le a b ≡ false
le_not a b h = grind (arith, ints)

-- a point too high for a part of the sky is not near it
too_high : (r : ℕ) (bounds : Bounds) (p : Point) → (bounds.z_high +ℤ pos r) <ℤ p.z → near_bounds r bounds p ≡ false
too_high r bounds p h =
    rw (le_not p.z (bounds.z_high +ℤ pos r) h, and_none (int_le (bounds.z_low -ℤ pos r) p.z)) refl

-- nor is one too low
too_low : (r : ℕ) (bounds : Bounds) (p : Point) → p.z <ℤ (bounds.z_low -ℤ pos r) → near_bounds r bounds p ≡ false
too_low r bounds p h = rw (le_not (bounds.z_low -ℤ pos r) p.z h) refl

-- a chunk of the stripes before stripe i ends no higher than stripe i begins
ends_below : (stripes : List Stripe) (i c : ℕ) → AreHigh stripes → c < chunks_in (take i stripes) → (site_in stripes c).end ≤ℤ floor_of (drop i stripes)
ends_below stripes zero c high h = absurd (omega (arith, h))
ends_below [] (suc i) c high h = absurd (omega (arith, h))
ends_below (s ∷ rest) (suc i) c high h = elim (cases_lt c s.chunks) [
  | inl l ↦
      let up = floor_up rest 0 i high.1 (omega arith) in
      subst (λ (site : Site). site.end ≤ℤ floor_of (drop i rest)) (sym (site_here s rest c l)) up
  | inr l ↦
      let more = chunks_more s (take i rest) in
      subst (λ (site : Site). site.end ≤ℤ floor_of (drop i rest)) (sym (site_later s rest c l))
      (ends_below rest i (c - s.chunks) high.1 (omega (arith, h, l, more)))
]

-- and one of the stripes from stripe i on begins no lower
begins_above : (stripes : List Stripe) (i c : ℕ) → AreHigh stripes → chunks_in (take i stripes) ≤ c → floor_of (drop i stripes) ≤ℤ (site_in stripes c).stripe.z_low
begins_above stripes zero c high h = site_above stripes c high
begins_above [] (suc i) c high h = omega (arith, ints)
begins_above (s ∷ rest) (suc i) c high h =
    let more = chunks_more s (take i rest) in
    subst (λ (site : Site). floor_of (drop i rest) ≤ℤ site.stripe.z_low) (sym (site_later s rest c (omega (arith, h, more))))
    (begins_above rest i (c - s.chunks) high.1 (omega (arith, h, more)))

-- no site ends above the sky
end_in_sky : (stripes : List Stripe) (c : ℕ) → AreHigh stripes → (site_in stripes c).end ≤ℤ sky_end
end_in_sky [] c high = omega (arith, ints)
end_in_sky (s ∷ rest) c high = elim (cases_lt c s.chunks) [
  | inl l ↦
      let up = floor_up rest 0 (length rest) high.1 (omega arith) in
      let top : floor_of (drop (length rest) rest) ≡ sky_end = ap floor_of (drop_all (length rest) rest (omega arith)) in
      subst (λ (site : Site). site.end ≤ℤ sky_end) (sym (site_here s rest c l)) (subst (λ z. floor_of rest ≤ℤ z) top up)
  | inr l ↦ subst (λ (site : Site). site.end ≤ℤ sky_end) (sym (site_later s rest c l)) (end_in_sky rest (c - s.chunks) high.1)
]

-- a chunk below the stripe that has the lowest height in reach does not need the point
pub below_apart : (g : Partition) (i c reach : ℕ) (low : ℤ) (p : Point) → IsSky g → CoversOverlaps g reach → SpansHeight g i low
    → ReachesDown p.z reach low → c < chunk_count g → c < chunks_in (take i g.stripes) → in_full_overlap g c p ≡ false
below_apart g i c reach low p sky covers spans down hc h =
    let site = site_of g c in
    let is = site_is g.stripes c sky.high sky.stripes hc in
    let ends = ends_below g.stripes i c sky.high h in
    let at = floor_at g.stripes i spans.there in
    let from = spans.low in
    let tall = is.high in
    let up = site_above g.stripes c sky.high in
    let bottom = sky.bottom in
    let clear = down site.end (omega (arith, ints, tall, up, bottom)) (omega (arith, ints, ends, at, from)) in
    let most = covers c hc in
    not_needed (near_chunk g c p) (in_chunk g c p) (too_high site.stripe.overlap (chunk_bounds site) p (omega (arith, ints, clear, most)))

-- nor does one above the stripe that has the highest
pub above_apart : (g : Partition) (i c reach : ℕ) (high : ℤ) (p : Point) → IsSky g → CoversOverlaps g reach → SpansHeight g i high
    → ReachesUp p.z reach high → c < chunk_count g → chunks_in (take (i + 1) g.stripes) ≤ c → in_full_overlap g c p ≡ false
above_apart g i c reach high p sky covers spans up hc h =
    let site = site_of g c in
    let is = site_is g.stripes c sky.high sky.stripes hc in
    let begins = begins_above g.stripes (i + 1) c sky.high h in
    let to = spans.high in
    let tall = is.high in
    let top = end_in_sky g.stripes c sky.high in
    let clear = up site.stripe.z_low (omega (arith, ints, tall, top)) (omega (arith, ints, begins, to)) in
    let most = covers c hc in
    not_needed (near_chunk g c p) (in_chunk g c p) (too_low site.stripe.overlap (chunk_bounds site) p (omega (arith, ints, clear, most)))

-- a lower height is not in a higher stripe
pub spans_up : (g : Partition) (i j : ℕ) (low high : ℤ) → IsSky g → SpansHeight g i low → SpansHeight g j high → low ≤ℤ high → i ≤ j
spans_up g i j low high sky one other h = elim (cases_lt j i) [
  | inl l ↦
      let up = floor_up g.stripes (j + 1) i sky.high (omega (arith, l)) in
      let at = floor_at g.stripes i one.there in
      let from = one.low in
      let to = other.high in absurd (omega (arith, ints, up, at, from, to, h))
  | inr l ↦ l
]

-- the stripes from that of the lowest height in reach to that of the highest have each chunk that needs the point
pub others_had : (g : Partition) (p : Point) (from last reach : ℕ) (z low high : ℤ) → z ≡ p.z → IsSky g → CoversOverlaps g reach
    → SpansHeight g from low → SpansHeight g last high → low ≤ℤ z → z ≤ℤ high → ReachesDown z reach low → ReachesUp z reach high
    → HaveOthers g p from (last + 1)
others_had g p from last reach z low high same sky covers one other le ge down up =
    let order = spans_up g from last low high sky one other (omega (arith, ints, le, ge)) in
    let there = other.there in record {
      order = omega (arith, order);
      within = omega (arith, there);
      below = λ c hc h. below_apart g from c reach low p sky covers one (subst (λ h'. ReachesDown h' reach low) same down) hc h;
      above = λ c hc h. above_apart g last c reach high p sky covers other (subst (λ h'. ReachesUp h' reach high) same up) hc h;
    }

-- a chunk of a stripe, or the end of the stripe's chunks, is within all chunks
pub chunk_in : (g : Partition) (i first n k : ℕ) → i < length g.stripes → first ≡ first_chunk g i → n ≡ (stripe_numbered g i).chunks → k ≤ n
    → first + k ≤ chunk_count g
chunk_in g i first n k hi e f h = let all = stripe_within g i hi in omega (arith, e, f, h, all)

-- three runs of a stripe's wedges, outside of which none is near, put all that need the point behind a list
pub stripe_pushed : (g : Partition) (i first n r a b c d e f : ℕ) (p : Point) (old one two three : List ℕ) → i < length g.stripes
    → first ≡ first_chunk g i → n ≡ (stripe_numbered g i).chunks → r ≡ (stripe_numbered g i).overlap → AreCandidates n r p a b c d e f
    → one ≡ old ++ others_between g p (first + a) (first + b) → two ≡ one ++ others_between g p (first + c) (first + d)
    → three ≡ two ++ others_between g p (first + e) (first + f)
    → three ≡ old ++ others_between g p (first_chunk g i) (first_chunk g (i + 1))
stripe_pushed g i first n r a b c d e f p old one two three hi first_is n_is r_is are ab cd ef =
    let stripe = stripe_numbered g i in
    let out : (k : ℕ) → k < n → IsLeftOut a b c d e f k → in_full_overlap g (first + k) p ≡ false = λ k hk left.
    let near = are.others k hk left in
    let own = subst (λ m. near_sides m (sides_of n k) p ≡ false) r_is near in
    let wedge = subst (λ m. near_sides stripe.overlap (sides_of m k) p ≡ false) n_is own in
    subst (λ s. in_full_overlap g (s + k) p ≡ false) (sym first_is) (wedge_apart g i k p hi (omega (arith, hk, n_is)) wedge) in
    let ends = stripe_ends g i hi in
    let to : first + n ≡ first_chunk g (i + 1) = omega (arith, first_is, n_is, ends) in
    three_runs (λ c'. in_full_overlap g c' p) first n a b c d e f old one two three are.row ab cd ef out
    ∙ ap (λ s. old ++ others_between g p s (first + n)) first_is ∙ ap (λ t. old ++ others_between g p (first_chunk g i) t) to

-- the chunks of stripes that have each that needs the point are all of them
pub near_pushed : (g : Partition) (p : Point) (from to : ℕ) (old new : List ℕ) → HaveOthers g p from to
    → new ≡ old ++ others_between g p (first_chunk g from) (first_chunk g to) → new ≡ old ++ near_others g p
near_pushed g p from to old new have e =
    let test : ℕ → Bool = λ c. in_full_overlap g c p in
    let all = chunk_count g in
    let order = chunks_up g.stripes from to have.order in
    let within = chunks_within g.stripes to in
    let lower = then_gap test 0 0 (first_chunk g from) old old (omega arith) (omega arith) (at_start test 0 old)
    (λ k low high. have.below k (omega (arith, high, order, within)) high) in
    let own = then_more test 0 (first_chunk g from) (first_chunk g to) old old new (omega arith) order lower e in
    let upper = then_gap test 0 (first_chunk g to) all old new (omega arith) within own (λ k low high. have.above k high low) in
    let whole : all - 0 ≡ all = omega arith in
    upper ∙ ap (λ n. old ++ filter test (range_with_len 0 n)) whole
