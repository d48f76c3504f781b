-- The mask that is true at the places of the rows that meet all conditions.
use Rattle.std.proofs.Common.{◌≡◌, ◌∙◌, refl, sym, ap, subst, ℕ, zero, suc, ◌+◌, ◌<◌, ◌⊎◌, inl, inr, arith, Bool, true, false, List, length, get_or, replicate, set, slice_get}
use Rattle.std.specs.Prelude.{All}
use Rattle.std.specs.List.{Contains, range_with_len}
use Rattle.std.proofs.lemmas.List.{get_or-map, get_or-set_other, get_or-set_same, get_or_default, length-map, same_lists}
use Rattle.std.proofs.lemmas.List.Elements.{filter_passes}
use Rattle.table_rules.specs.Objects.{Obj}
use Rattle.sky_row.specs.Columns.{no_row}
use Rattle.sky_rules.proofs.Ranges.{listed}
use Rattle.sql_bound.specs.declared.cond.BoundCond.{BoundCond}
use Rattle.value_rules.specs.Truth.{meets}
use Rattle.value_rules.specs.Values.{row}
use Rattle.chunk_rules.specs.Places.{passes}
use Rattle.chunk_filter.specs.Selection.{mask_of, meets_at, selection}
use Rattle.chunk_filter.proofs.Narrowing.{equal_or_not}
use Rattle.chunk_filter.proofs.Places.{meets_there}

same_bits : (a b : Bool) → (a ≡ true → b ≡ true) → (b ≡ true → a ≡ true) → a ≡ b
same_bits true b f h = sym (f refl)
same_bits false true f h = h refl
same_bits false false f h = refl

-- a mask that is false everywhere
pub none_true : (n k : ℕ) → get_or (replicate n false) k false ≡ true → ⊥
none_true zero k h = absurd cc
none_true (suc n) zero h = absurd cc
none_true (suc n) (suc k) h = none_true n k h

lower : (i j : ℕ) → j < i + 1 → ((j ≡ i) → ⊥) → j < i
lower i j low apart = grind (arith, low, apart)

-- one place more at which a mask is made true
pub set_more : (mask : List Bool) (places : List ℕ) (i : ℕ) → get_or places i 0 < length mask
    → ((j : ℕ) → j < i → get_or mask (get_or places j 0) false ≡ true)
    → (j : ℕ) → j < i + 1 → get_or (set mask (get_or places i 0) true) (get_or places j 0) false ≡ true
set_more mask places i there h j low = which (equal_or_not (get_or places i 0) (get_or places j 0))
  where
    which : (get_or places j 0 ≡ get_or places i 0) ⊎ ((get_or places j 0 ≡ get_or places i 0) → ⊥)
        → get_or (set mask (get_or places i 0) true) (get_or places j 0) false ≡ true
    which (inl same) =
        ap (λ n. get_or (set mask (get_or places i 0) true) n false) same ∙ get_or-set_same mask (get_or places i 0) true false there
    which (inr other) =
        get_or-set_other mask (get_or places i 0) (get_or places j 0) true false other ∙ h j (before (equal_or_not i j))
      where
        before : (j ≡ i) ⊎ ((j ≡ i) → ⊥) → j < i
        before (inl same) = absurd (other (ap (λ n. get_or places n 0) same))
        before (inr apart) = lower i j low apart

-- what is true wherever a mask is, and at one place more, is true wherever the mask then is
pub only_more : (mask : List Bool) (place : ℕ) (test : ℕ → Bool) → test place ≡ true
    → ((k : ℕ) → get_or mask k false ≡ true → test k ≡ true)
    → (k : ℕ) → get_or (set mask place true) k false ≡ true → test k ≡ true
only_more mask place test at h k is = which (equal_or_not place k)
  where
    which : (k ≡ place) ⊎ ((k ≡ place) → ⊥) → test k ≡ true
    which (inl same) = ap test same ∙ at
    which (inr other) = h k (sym (get_or-set_other mask place k true false other) ∙ is)

-- a mask that is true at these places and nowhere else
pub mask_is : (conds : List BoundCond) (objects : List Obj) (mask : List Bool) (places : List ℕ) → length mask ≡ length objects
    → places ≡ selection conds objects → ((j : ℕ) → j < length places → get_or mask (get_or places j 0) false ≡ true)
    → ((test : ℕ → Bool) → All (λ place. test place ≡ true) places → ((k : ℕ) → get_or (replicate (length objects) false) k false ≡ true → test k ≡ true)
    → (k : ℕ) → get_or mask k false ≡ true → test k ≡ true)
    → mask ≡ mask_of conds objects
mask_is conds objects mask places count are set only =
    same_lists mask (mask_of conds objects) (count ∙ sym (length-map objects (λ o. meets conds (row o)))) (λ k d low.
    let there : k < length objects = omega (arith, low, count) in
    get_or_default mask k d false low
    ∙ (same_bits (get_or mask k false) (meets_at conds objects k) (forth k there) (back k there)
    ∙ sym (get_or-map (λ o. meets conds (row o)) objects k no_row d there)))
  where
    test : ℕ → Bool
    test k = passes (λ o. meets conds (row o)) (slice_get objects k)

    pass : All (λ place. test place ≡ true) places
    pass = subst (All (λ place. test place ≡ true)) (sym are) (filter_passes test (range_with_len 0 (length objects)))

    forth : (k : ℕ) → k < length objects → get_or mask k false ≡ true → meets_at conds objects k ≡ true
    forth k there h = sym (meets_there conds objects k there) ∙ only test pass (λ k h. absurd (none_true (length objects) k h)) k h

    at : (k : ℕ) → Contains places k → get_or mask k false ≡ true
    at k has = subst (λ n. get_or mask n false ≡ true) (get_or_default places has.0 0 k has.1 ∙ has.2) (set has.0 has.1)

    back : (k : ℕ) → k < length objects → meets_at conds objects k ≡ true → get_or mask k false ≡ true
    back k there h =
        at k (subst (λ l. Contains l k) (sym are) (listed test k (length objects) there (meets_there conds objects k there ∙ h)))
