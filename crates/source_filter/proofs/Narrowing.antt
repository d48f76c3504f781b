-- A mask of sources that is narrowed by one condition after the other.
use Rattle.std.proofs.Common.{◌≡◌, ◌∙◌, refl, sym, ap, ℕ, zero, suc, ◌<◌, arith, Bool, true, false, ◌&&◌, ◌⊎◌, inl, inr, List, [], ◌∷◌, ◌++◌, length, get_or, take, drop, replicate, filter, Some, slice_get}
use Rattle.std.specs.List.{range_with_len}
use Rattle.std.proofs.lemmas.List.{get_or-replicate, length-replicate}
use Rattle.std.proofs.lemmas.Option.{slice_get-get_or}
use Rattle.sql_bound.specs.declared.cond.BoundCond.{BoundCond}
use Rattle.source_row.specs.SourceColumns.{SourceParts, source_at}
use Rattle.value_rules.specs.Formulas.{formula_of}
use Rattle.value_rules.specs.Truth.{holds, meets}
use Rattle.value_rules.specs.Values.{Pick, cell_of}
use Rattle.lane_filter.specs.Tests.{places_of}
use Rattle.child_rules.specs.Children.{child_pair}
use Rattle.source_filter.specs.declared.source_column.SourceColumn.{SourceColumn}
use Rattle.source_filter.specs.declared.test.ColumnTest.{ColumnTest}
use Rattle.source_filter.specs.Candidates.{AreCandidates, Fails, FailsTest, IsNarrowed, IsUnmet}
use Rattle.source_filter.specs.Columns.{IsColumnOf, value_in}
use Rattle.source_filter.specs.Masks.{IsNarrowedBy}
use Rattle.source_filter.specs.Tests.{IsColumnTest, passes}
use Rattle.source_filter.proofs.Keeping.{narrowed_if}
use Rattle.source_filter.proofs.Reading.{column_read}

-- a test of a column of sources
pub narrowed_to : (p : SourceParts) (t : ColumnTest) (c : SourceColumn) (old new : List Bool) → IsColumnOf (length p.further) c t.col
    → IsNarrowedBy (λ k. passes t.test (value_in p c k) ≡ false) old new → IsNarrowedBy (λ k. FailsTest t (source_at p k)) old new
narrowed_to p t c old new is by =
    narrowed_if (λ k. passes t.test (value_in p c k) ≡ false) (λ k. FailsTest t (source_at p k)) old new
    (λ k low off o own. ap (passes t.test) (column_read p c t.col k o is own) ∙ off) by

-- a condition that is the test
pub narrowed_by : (p : SourceParts) (c : BoundCond) (t : ColumnTest) (old new : List Bool) → IsColumnTest (formula_of c) t
    → IsNarrowedBy (λ k. FailsTest t (source_at p k)) old new → IsNarrowedBy (λ k. Fails c (source_at p k)) old new
narrowed_by p c t old new is by =
    narrowed_if (λ k. FailsTest t (source_at p k)) (λ k. Fails c (source_at p k)) old new
    (λ k low off o own. is (cell_of (child_pair o (source_at p k))) o.at ∙ off o own) by

-- what fails one condition does not meet all of them
pub fails_all : (conds : List BoundCond) (p : Pick) (i : ℕ) (c : BoundCond) → slice_get conds i ≡ Some c → holds c p ≡ false → meets conds p ≡ false
fails_all [] p i c at h = absurd cc
fails_all (d ∷ conds) p zero c at h = first (holds d p) (meets conds p) (cc (at, h))
  where
    first : (a b : Bool) → a ≡ false → (a && b) ≡ false
    first true b e = absurd cc
    first false b e = refl
fails_all (d ∷ conds) p (suc i) c at h = second (holds d p) (meets conds p) (fails_all conds p i c at h)
  where
    second : (a b : Bool) → b ≡ false → (a && b) ≡ false
    second true b e = e
    second false b e = refl

-- before the first condition
pub narrowed_none : (conds : List BoundCond) (p : SourceParts) (mask : List Bool) → mask ≡ replicate (length p.ids) true → IsNarrowed conds p mask
narrowed_none conds p mask is = record {
  count = ap length is ∙ length-replicate (length p.ids) true;
  unmet = λ k low off. absurd (on (sym (ap (λ l. get_or l k false) is ∙ get_or-replicate (length p.ids) k true false low) ∙ off));
}
  where
    on : true ≡ false → ⊥
    on h = absurd (cc h)

-- one condition more
pub narrowed_more : (conds : List BoundCond) (p : SourceParts) (old new : List Bool) (i : ℕ) (c : BoundCond) → slice_get conds i ≡ Some c
    → IsNarrowedBy (λ k. Fails c (source_at p k)) old new → IsNarrowed conds p old → IsNarrowed conds p new
narrowed_more conds p old new i c at by h = record {
  count = by.count ∙ h.count;
  unmet = λ k low off. by_part k low (by.cleared k (omega (arith, low, h.count)) off);
}
  where
    by_part : (k : ℕ) → k < length p.ids → (get_or old k false ≡ false) ⊎ Fails c (source_at p k) → IsUnmet conds (source_at p k)
    by_part k low (inl off) = h.unmet k low off
    by_part k low (inr fails) = λ o own. fails_all conds (child_pair o (source_at p k)) i c at (fails o own)

-- the condition at an index
pub found_at : {X : Type 0} (xs : List X) (i : ℕ) (x : X) → i < length xs → x ≡ get_or xs i x → slice_get xs i ≡ Some x
found_at xs i x there is = slice_get-get_or xs i x there ∙ ap Some (sym is)

-- a list whose slice was written as a whole
pub written_whole : {X : Type 0} (items new : List X) (n : ℕ) → length new ≡ n → take n (new ++ drop (length new) items) ≡ new
written_whole items new n is = ap (λ m. take m (new ++ drop (length new) items)) (sym is) ∙ front_taken new (drop (length new) items)
  where
    front_taken : {X : Type 0} (front rest : List X) → take (length front) (front ++ rest) ≡ front
    front_taken [] rest = refl
    front_taken (x ∷ front) rest = ap (λ l. x ∷ l) (front_taken front rest)

-- the numbers in the mask
pub narrowed_numbers : (conds : List BoundCond) (p : SourceParts) (mask : List Bool) (numbers : List ℕ) → IsNarrowed conds p mask → numbers ≡ places_of mask → AreCandidates conds p numbers
narrowed_numbers conds p mask numbers h is = record {
  kept = λ k. get_or mask k false;
  ascend = is ∙ ap (λ n. filter (λ k. get_or mask k false) (range_with_len 0 n)) h.count;
  unmet = h.unmet;
}
