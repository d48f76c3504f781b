-- A chunk's rows, parted by its subchunks.
use Rattle.std.proofs.Common.{◌≡◌, ℕ, ◌+◌, ◌*◌, ◌<◌, ◌≤◌, ◌-◌, Bool, true, false, List, [], ◌∷◌, ◌++◌, filter, cond, nat_lt}
use Rattle.std.proofs.Common.{ap, sym, subst, ◌∙◌, arith, length, take, get_or, replicate, slice_get, IsTrue}
use Rattle.std.specs.Prelude.{All}
use Rattle.std.specs.List.{Contains, range_with_len}
use Rattle.std.proofs.Math.Nat.{mul-le-mul_left, mul-le-mul_right}
use Rattle.std.proofs.lemmas.List.{get_or-replicate, get_or_default, length-replicate, take_more}
use Rattle.std.proofs.lemmas.List.Elements.{All-tail, All-map, filter-append}
use Rattle.std.proofs.lemmas.List.FromFn.{fill_by_all}
use Rattle.std.proofs.lemmas.Option.{slice_get-get_or}
use Rattle.table_rules.specs.Objects.{Obj}
use Rattle.sky_row.specs.Columns.{no_row}
use Rattle.sky_rules.specs.declared.limits.TheConstants.{CHUNKS_MOST, CUTS_MOST}
use Rattle.sky_rules.specs.Limits.{IsSky, IsStripe}
use Rattle.sky_rules.specs.Partition.{Partition, Stripe, chunk_count, floor_of, site_in, sub_count}
use Rattle.sky_rules.specs.Bounds.{in_chunk, in_sub}
use Rattle.sky_plan.specs.Places.{SubHolds}
use Rattle.chunk_rules.specs.Places.{passes}
use Rattle.chunk_store.specs.Lists.{AreParts, Pushed, as_often, kept_if}
use Rattle.chunk_store.specs.Places.{chunk_rows, sub_lists, sub_rows}
use Rattle.chunk_store.proofs.Pushing.{held_often}
use Rattle.chunk_store.proofs.Ranges.{places_there}
use Rattle.chunk_store.proofs.SubLaws.{known_passes}
use Rattle.chunk_store.proofs.Subs.{sub_of_chunk}

-- ---- how many subchunks there are

few_cuts : (stripes : List Stripe) → All IsStripe stripes → (c : ℕ) → ((site_in stripes c).stripe.rows ≤ CUTS_MOST) × ((site_in stripes c).stripe.columns ≤ CUTS_MOST)
few_cuts [] are c = (omega arith, omega arith)
few_cuts (s ∷ rest) are c = by (nat_lt c s.chunks) (few_cuts rest (All-tail IsStripe s rest are) (c - s.chunks))
  where
    by : (b : Bool) → ((site_in rest (c - s.chunks)).stripe.rows ≤ CUTS_MOST) × ((site_in rest (c - s.chunks)).stripe.columns ≤ CUTS_MOST)
        → ((cond b (record { stripe = s; end = floor_of rest; wedge = c }) (site_in rest (c - s.chunks))).stripe.rows ≤ CUTS_MOST)
        × ((cond b (record { stripe = s; end = floor_of rest; wedge = c }) (site_in rest (c - s.chunks))).stripe.columns ≤ CUTS_MOST)
    by true later = let is : IsStripe s = are 0 s (omega arith) in (is.few_rows, is.few_columns)
    by false later = later

few_product : (a b : ℕ) → a ≤ CUTS_MOST → b ≤ CUTS_MOST → a * b ≤ CHUNKS_MOST
few_product a b low_a low_b = omega (arith, mul-le-mul_left a low_b, mul-le-mul_right CUTS_MOST low_a)

-- a chunk has no more subchunks than a sky may have chunks
pub few_subs : (g : Partition) (c : ℕ) → IsSky g → sub_count g c ≤ CHUNKS_MOST
few_subs g c sky = let both = few_cuts g.stripes sky.stripes c in few_product _ _ both.0 both.1

-- ---- lists of subchunks while places are put into them

-- before the first place
pub parts_start : (g : Partition) (objects : List Obj) (c : ℕ) → AreParts g objects c [] (replicate (sub_count g c) [])
parts_start g objects c = record { all = length-replicate (sub_count g c) []; each = λ s h. get_or-replicate (sub_count g c) s [] [] h }

-- a place more
parts_more : (g : Partition) (objects : List Obj) (c : ℕ) (places : List ℕ) (place s : ℕ) (old new : List (List ℕ))
    → AreParts g objects c places old → Pushed (s ∷ []) place old new
    → ((t : ℕ) → t < sub_count g c → as_often place t (s ∷ []) ≡ kept_if (passes (λ o. in_sub g c t o.at) (slice_get objects place)) place)
    → AreParts g objects c (places ++ place ∷ []) new
parts_more g objects c places place s old new are pushed often = record { all = pushed.same ∙ are.all; each = at }
  where
    at : (t : ℕ) → t < sub_count g c → get_or new t [] ≡ filter (λ i. passes (λ o. in_sub g c t o.at) (slice_get objects i)) (places ++ place ∷ [])
    at t h =
        pushed.each t (subst (λ n. t < n) (sym are.all) h)
        ∙ (ap (λ l. l ++ as_often place t (s ∷ [])) (are.each t h)
        ∙ (ap (λ l. filter (λ i. passes (λ o. in_sub g c t o.at) (slice_get objects i)) places ++ l) (often t h)
        ∙ sym (filter-append (λ i. passes (λ o. in_sub g c t o.at) (slice_get objects i)) places (place ∷ []))))

-- the object at a place of a chunk's rows is in the chunk
pub held_at : (g : Partition) (objects : List Obj) (c place : ℕ) → place < length objects → Contains (chunk_rows g objects c) place
    → IsTrue (in_chunk g c (get_or objects place no_row).at)
held_at g objects c place there has =
    known_passes (λ o. in_chunk g c o.at) objects place (get_or objects place no_row) (slice_get-get_or objects place no_row there) has

-- the place of one of a chunk's rows is one of the table
row_there : (g : Partition) (objects : List Obj) (c : ℕ) (own : List ℕ) (k d : ℕ) → own ≡ chunk_rows g objects c → k < length own → get_or own k d < length objects
row_there g objects c own k d is low = subst (All (λ i. i < length objects)) (sym is) (places_there (λ o. in_chunk g c o.at) objects) k d low

-- and the chunk holds the object there
row_held : (g : Partition) (objects : List Obj) (c : ℕ) (own : List ℕ) (k d : ℕ) → own ≡ chunk_rows g objects c → k < length own
    → IsTrue (in_chunk g c (get_or objects (get_or own k d) no_row).at)
row_held g objects c own k d is low =
    held_at g objects c (get_or own k d) (row_there g objects c own k d is low)
    (subst (λ l. Contains l (get_or own k d)) is (k, low, get_or_default own k (get_or own k d) d low))

-- so the number of its subchunk is one of the chunk's
pub sub_there : (g : Partition) (objects : List Obj) (c : ℕ) (own : List ℕ) (k d s : ℕ) → c < chunk_count g → own ≡ chunk_rows g objects c → k < length own
    → SubHolds g s (get_or objects (get_or own k d) no_row).at → s < sub_count g c
sub_there g objects c own k d s hc is low holds = holds.there c hc (row_held g objects c own k d is low)

-- a row of the chunk more
pub parts_next : (g : Partition) (objects : List Obj) (c : ℕ) (own : List ℕ) (k d s : ℕ) (old new : List (List ℕ))
    → c < chunk_count g → own ≡ chunk_rows g objects c → k < length own → SubHolds g s (get_or objects (get_or own k d) no_row).at
    → AreParts g objects c (take k own) old → Pushed (s ∷ []) (get_or own k d) old new → AreParts g objects c (take (k + 1) own) new
parts_next g objects c own k d s old new hc is low holds are pushed =
    let place = get_or own k d in
    let there = row_there g objects c own k d is low in
    let held = row_held g objects c own k d is low in
    let often : (t : ℕ) → t < sub_count g c → as_often place t (s ∷ []) ≡ kept_if (passes (λ o. in_sub g c t o.at) (slice_get objects place)) place =
    λ t ht. held_often (λ u. in_sub g c u (get_or objects place no_row).at) (sub_count g c) place s (holds.holds c hc held) (λ u hu e. holds.only c u hc hu e) t ht
    ∙ ap (λ o. kept_if (passes (λ o. in_sub g c t o.at) o) place) (sym (slice_get-get_or objects place no_row there)) in
    subst (λ l. AreParts g objects c l new) (sym (take_more own k d low))
    (parts_more g objects c (take k own) place s old new are pushed often)

-- once all rows of the chunk are put, the lists are those of its subchunks
pub parts_are : (g : Partition) (objects : List Obj) (c : ℕ) (lists : List (List ℕ)) → IsSky g → c < chunk_count g
    → AreParts g objects c (chunk_rows g objects c) lists → lists ≡ sub_lists g objects c
parts_are g objects c lists sky hc are =
    fill_by_all (λ s. sub_rows g objects c s) lists (sub_count g c) [] are.all (λ s low. are.each s low ∙ sub_of_chunk g objects c s sky hc low)

-- each place of them is one of the table
pub parts_there : (g : Partition) (objects : List Obj) (c : ℕ) → All (λ places. All (λ i. i < length objects) places) (sub_lists g objects c)
parts_there g objects c =
    All-map (λ places. All (λ i. i < length objects) places) (λ s. sub_rows g objects c s) (range_with_len 0 (sub_count g c))
    (λ k d low. places_there (λ o. in_sub g c _ o.at) objects)
