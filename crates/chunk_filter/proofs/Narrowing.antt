-- A mask that kernels clear, one condition after the other.
use Rattle.std.proofs.Common.{◌≡◌, ◌∙◌, refl, sym, ap, subst, ℕ, zero, suc, ◌<◌, ◌⊎◌, inl, inr, arith, Bool, true, false, List, [], ◌∷◌, length, get_or, set, replicate, Some, slice_get}
use Rattle.std.proofs.lemmas.List.{get_or-replicate, get_or-set_other, get_or-set_same, length-replicate}
use Rattle.std.proofs.lemmas.Bool.{and_parts}
use Rattle.table_rules.specs.Objects.{Obj}
use Rattle.sky_row.specs.Columns.{no_row}
use Rattle.sql_bound.specs.declared.cond.BoundCond.{BoundCond}
use Rattle.value_rules.specs.Truth.{holds, meets}
use Rattle.value_rules.specs.Values.{Pick, row}
use Rattle.value_rules.specs.Formulas.{formula_of}
use Rattle.lane_filter.specs.Tests.{IsKeptBy}
use Rattle.chunk_filter.specs.declared.predicate.Vectorized.{Vectorized}
use Rattle.chunk_filter.specs.Asking.{IsVectorized, asks}
use Rattle.chunk_filter.specs.Selection.{IsNarrowed, IsNarrowedBy, holds_at}

-- what meets all conditions meets each
pub meets_each : (conds : List BoundCond) (p : Pick) (i : ℕ) (c : BoundCond) → slice_get conds i ≡ Some c → meets conds p ≡ true → holds c p ≡ true
meets_each [] p i c at h = absurd cc
meets_each (d ∷ conds) p zero c at h = cc (at, (and_parts (holds d p) (meets conds p) h).0)
meets_each (d ∷ conds) p (suc i) c at h = meets_each conds p i c at (and_parts (holds d p) (meets conds p) h).1

-- two numbers are equal or not
pub equal_or_not : (i j : ℕ) → (j ≡ i) ⊎ ((j ≡ i) → ⊥)
equal_or_not i j = grind arith

-- before the first condition
pub narrowed_none : (conds : List BoundCond) (objects : List Obj) (n : ℕ) → IsNarrowed conds objects (replicate n false) (replicate (length objects) true)
narrowed_none conds objects n = record {
  count = length-replicate (length objects) true;
  kept = λ k low meets. get_or-replicate (length objects) k true false low;
  done = λ i k c at flag low stands. absurd (none i flag);
}
  where
    none : (i : ℕ) → get_or (replicate n false) i false ≡ true → ⊥
    none i h = never n i h
      where
        never : (n i : ℕ) → get_or (replicate n false) i false ≡ true → ⊥
        never zero i h = absurd cc
        never (suc n) zero h = absurd cc
        never (suc n) (suc i) h = never n i h

-- one condition more
pub narrowed_more : (conds : List BoundCond) (objects : List Obj) (done old new : List Bool) (i : ℕ) (c : BoundCond) (b : Bool) → i < length done
    → slice_get conds i ≡ Some c → IsNarrowedBy c objects b old new → IsNarrowed conds objects done old
    → IsNarrowed conds objects (set done i b) new
narrowed_more conds objects done old new i c b there at by h = record {
  count = by.count ∙ h.count;
  kept = λ k low all.
      by.kept k (omega (arith, low, h.count)) (h.kept k low all) (meets_each conds (row (get_or objects k no_row)) i c at all);
  done = λ j k d is flag low stands. which j k d is flag low stands (equal_or_not i j);
}
  where
    which : (j k : ℕ) (d : BoundCond) → slice_get conds j ≡ Some d → get_or (set done i b) j false ≡ true → k < length objects → get_or new k false ≡ true
        → (j ≡ i) ⊎ ((j ≡ i) → ⊥) → holds_at d objects k ≡ true
    which j k d is flag low stands (inl same) =
        let flagged : b ≡ true = sym (get_or-set_same done i b false there) ∙ (ap (λ n. get_or (set done i b) n false) (sym same) ∙ flag) in
        let one : Some c ≡ Some d = sym at ∙ (ap (slice_get conds) (sym same) ∙ is) in
        subst (λ o. o ≡ Some d → holds_at d objects k ≡ true) refl
        (λ e. told c d e (by.done flagged k (omega (arith, low, h.count)) stands)) one
      where
        told : (c d : BoundCond) → Some c ≡ Some d → holds_at c objects k ≡ true → holds_at d objects k ≡ true
        told c d e t = cc (e, t)
    which j k d is flag low stands (inr other) =
        h.done j k d is (sym (get_or-set_other done i j b false other) ∙ flag) low (by.back k (omega (arith, low, h.count)) stands)

-- a mask that was kept by what a kernel asks for a condition
pub narrowed_by : (c : BoundCond) (objects : List Obj) (e : Vectorized) (old new : List Bool) → length objects ≡ length old → length new ≡ length old
    → IsVectorized (formula_of c) e → IsKeptBy (λ k. asks e.test (get_or objects k no_row)) old new → IsNarrowedBy c objects e.whole old new
narrowed_by c objects e old new count same h kept = record {
  count = same;
  back = λ k low stands. (and_parts (get_or old k false) (asks e.test (get_or objects k no_row)) (sym (kept k low) ∙ stands)).0;
  kept = λ k low stands holds. kept k low ∙ cc (stands, h.kept (get_or objects k no_row) holds);
  done = λ flag k low stands.
      sym (h.whole flag (get_or objects k no_row))
      ∙ (and_parts (get_or old k false) (asks e.test (get_or objects k no_row)) (sym (kept k low) ∙ stands)).1;
}

-- a mask that no kernel looked at
pub narrowed_not : (c : BoundCond) (objects : List Obj) (old : List Bool) → IsNarrowedBy c objects false old old
narrowed_not c objects old = record {
  count = refl;
  back = λ k low stands. stands;
  kept = λ k low stands holds. stands;
  done = λ flag k low stands. absurd cc;
}
