-- Which rows a subchunk holds, and which it needs beside its own.
use Rattle.std.proofs.Common.{◌≡◌, ℕ, ◌<◌, ◌==◌, Bool, true, false, not, ◌&&◌, ◌||◌, List, filter}
use Rattle.std.proofs.Common.{refl, ap, sym, subst, ◌∙◌, length, get_or, slice_get, Option, Some, None, ◌⊎◌, inl, inr, ◌≢◌}
use Rattle.std.specs.List.{range_with_len, All}
use Rattle.std.proofs.lemmas.Bool.Decides.{eqb_tells}
use Rattle.sky_vector.specs.Points.{Point}
use Rattle.std.proofs.lemmas.Option.{slice_get-get_or}
use Rattle.table_rules.specs.Objects.{Obj}
use Rattle.sky_row.specs.Columns.{no_row}
use Rattle.sky_rules.specs.Laws.{IsOnlyPlace}
use Rattle.sky_rules.specs.Limits.{IsSky}
use Rattle.sky_rules.specs.Partition.{Partition, chunk_count, sub_count}
use Rattle.sky_rules.specs.Bounds.{in_chunk, in_sub, near_chunk, near_sub}
use Rattle.sky_rules.proofs.OnlyPlace.{sub_lies_in_its_chunk}
use Rattle.overlap_tables.specs.Overlaps.{in_full_overlap}
use Rattle.chunk_rules.specs.Places.{passes}
use Rattle.chunk_store.specs.Places.{in_sub_overlap, chunk_rows, full_overlap_rows, sub_rows, sub_overlap_rows}
use Rattle.chunk_store.specs.Merged.{merged}
use Rattle.chunk_store.proofs.Ranges.{filter_twice, filter_below, same_filter}
use Rattle.chunk_store.proofs.Merging.{merged_filters}

-- the subchunk holds the point where it is the point's place
pub is_place : (g : Partition) (c s d t : ℕ) (p : Point) → IsOnlyPlace g d t p → c < chunk_count g → s < sub_count g c → (d == c && t == s) ≡ in_sub g c s p
is_place g c s d t p only hc hs = by (eqb_tells d c) (eqb_tells t s)
  where
    apart : (b : Bool) → in_sub g c s p ≡ b → ((c ≡ d) × (s ≡ t) → ⊥) → false ≡ b
    apart true e other = absurd (other (only.no_other_sub c s hc hs e))
    apart false e other = refl

    by : (((d == c) ≡ true) × (d ≡ c)) ⊎ (((d == c) ≡ false) × (d ≢ c)) → (((t == s) ≡ true) × (t ≡ s)) ⊎ (((t == s) ≡ false) × (t ≢ s)) → (d == c && t == s) ≡ in_sub g c s p
    by (inl same) (inl is) =
        ap (λ b. b && t == s) same.0 ∙ (is.0 ∙ sym (subst (λ x. in_sub g x s p ≡ true) same.1 (subst (λ x. in_sub g d x p ≡ true) is.1 only.in_its_sub)))
    by (inl same) (inr other) = ap (λ b. b && t == s) same.0 ∙ (other.0 ∙ apart (in_sub g c s p) refl (λ e. other.1 (sym e.1)))
    by (inr other) _ = ap (λ b. b && t == s) other.0 ∙ apart (in_sub g c s p) refl (λ e. other.1 (sym e.0))

absorbed : (a b : Bool) → (b ≡ true → a ≡ true) → (a && b) ≡ b
absorbed a true h = ap (λ x. x && true) (h refl)
absorbed true false h = refl
absorbed false false h = refl

in_both : (g : Partition) (c s : ℕ) (o : Option Obj) → IsSky g → c < chunk_count g → s < sub_count g c
    → (passes (λ o. in_chunk g c o.at) o && passes (λ o. in_sub g c s o.at) o) ≡ passes (λ o. in_sub g c s o.at) o
in_both g c s None sky hc hs = refl
in_both g c s (Some o) sky hc hs = absorbed (in_chunk g c o.at) (in_sub g c s o.at) (sub_lies_in_its_chunk g c s o.at sky hc hs)

-- the chunk's rows that the subchunk holds are its own
pub sub_of_chunk : (g : Partition) (objects : List Obj) (c s : ℕ) → IsSky g → c < chunk_count g → s < sub_count g c
    → filter (λ i. passes (λ o. in_sub g c s o.at) (slice_get objects i)) (chunk_rows g objects c) ≡ sub_rows g objects c s
sub_of_chunk g objects c s sky hc hs =
    filter_twice (λ i. passes (λ o. in_chunk g c o.at) (slice_get objects i)) (λ i. passes (λ o. in_sub g c s o.at) (slice_get objects i)) (range_with_len 0 (length objects))
    ∙ same_filter _ (λ i. passes (λ o. in_sub g c s o.at) (slice_get objects i)) 0 (length objects) (λ i low high. in_both g c s (slice_get objects i) sky hc hs)

apart_step : (a b : Bool) → (a && (b && not a)) ≡ false
apart_step true true = refl
apart_step true false = refl
apart_step false b = refl

apart_at : (g : Partition) (c : ℕ) (o : Option Obj) → (passes (λ o. in_chunk g c o.at) o && passes (λ o. in_full_overlap g c o.at) o) ≡ false
apart_at g c None = refl
apart_at g c (Some o) = apart_step (in_chunk g c o.at) (near_chunk g c o.at)

-- the rows of the chunk and of its full overlap, as one
pub near_rows : (g : Partition) (objects : List Obj) (c : ℕ)
    → merged (chunk_rows g objects c) (full_overlap_rows g objects c)
    ≡ filter (λ i. passes (λ o. in_chunk g c o.at) (slice_get objects i) || passes (λ o. in_full_overlap g c o.at) (slice_get objects i)) (range_with_len 0 (length objects))
near_rows g objects c =
    merged_filters (λ i. passes (λ o. in_chunk g c o.at) (slice_get objects i)) (λ i. passes (λ o. in_full_overlap g c o.at) (slice_get objects i))
    0 (length objects) (λ i. apart_at g c (slice_get objects i))

-- each of their places is one of the table
pub near_rows_there : (g : Partition) (objects : List Obj) (c : ℕ) → All (λ i. i < length objects) (merged (chunk_rows g objects c) (full_overlap_rows g objects c))
near_rows_there g objects c = subst (All (λ i. i < length objects)) (sym (near_rows g objects c)) (filter_below _ (length objects))

beside_at : (g : Partition) (c s : ℕ) (o : Option Obj)
    → ((passes (λ o. in_chunk g c o.at) o || passes (λ o. in_full_overlap g c o.at) o) && passes (λ o. near_sub g c s o.at && not (in_sub g c s o.at)) o)
    ≡ passes (λ o. in_sub_overlap g c s o.at) o
beside_at g c s None = refl
beside_at g c s (Some o) = refl

-- those of them that are beside the subchunk are its overlap
pub sub_overlap_of : (g : Partition) (objects : List Obj) (c s : ℕ)
    → filter (λ i. passes (λ o. near_sub g c s o.at && not (in_sub g c s o.at)) (slice_get objects i)) (merged (chunk_rows g objects c) (full_overlap_rows g objects c))
    ≡ sub_overlap_rows g objects c s
sub_overlap_of g objects c s =
    ap (filter (λ i. passes (λ o. near_sub g c s o.at && not (in_sub g c s o.at)) (slice_get objects i))) (near_rows g objects c)
    ∙ (filter_twice _ (λ i. passes (λ o. near_sub g c s o.at && not (in_sub g c s o.at)) (slice_get objects i)) (range_with_len 0 (length objects))
    ∙ same_filter _ (λ i. passes (λ o. in_sub_overlap g c s o.at) (slice_get objects i)) 0 (length objects) (λ i low high. beside_at g c s (slice_get objects i)))

-- the test of the object at a place is that of its position
pub passes_at : (test : Point → Bool) (objects : List Obj) (place : ℕ) (p : Point) → place < length objects → p ≡ (get_or objects place no_row).at
    → test p ≡ passes (λ o. test o.at) (slice_get objects place)
passes_at test objects place p low is = ap test is ∙ ap (passes (λ o. test o.at)) (sym (slice_get-get_or objects place no_row low))
