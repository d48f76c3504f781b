-- The lists of two ranges of rows, appended chunk by chunk.
use Rattle.std.proofs.Common.{◌≡◌, ◌∙◌, refl, ap, sym, subst, ℕ, ◌+◌, ◌<◌, ◌≤◌, arith, Bool, List, [], ◌++◌, length, map, get_or, set, ◌⊎◌, inl, inr, slice_get}
use Rattle.std.proofs.lemmas.List.{map-set, length-map, get_or-map, get_or-set_same, get_or-set_other, length-set}
use Rattle.table_rules.specs.Objects.{Obj}
use Rattle.chunk_rules.specs.Places.{passes}
use Rattle.sky_rules.specs.Partition.{Partition}
use Rattle.chunk_store.specs.Lists.{Extended, AreAppendedBelow, AreListsFrom, AreRowLists, places_from}
use Rattle.chunk_store.proofs.Ranges.{filter_both}

extended_set : (chunk : ℕ) (more old : List ℕ) (lists : List (List ℕ)) → chunk < length lists → old ≡ get_or lists chunk []
    → Extended chunk more lists (set lists chunk (old ++ more))
extended_set chunk more old lists there is = record {
  same = length-set lists chunk (old ++ more);
  here = get_or-set_same lists chunk (old ++ more) [] there ∙ ap (λ l. l ++ more) is;
  others = λ c other. get_or-set_other lists chunk c (old ++ more) [] other;
}

-- one list has another appended, as lists are kept
pub extended_into : {V : Type 0} (f : V → List ℕ) (vs : List V) (chunk : ℕ) (more : List ℕ) (v w : V) → chunk < length vs → w ≡ get_or vs chunk w → f v ≡ f w ++ more
    → Extended chunk more (map f vs) (map f (set vs chunk v))
extended_into f vs chunk more v w there was is =
    subst (λ l. Extended chunk more (map f vs) l) (ap (set (map f vs) chunk) (sym is) ∙ sym (map-set f vs chunk v))
    (extended_set chunk more (f w) (map f vs) (omega (arith, length-map vs f, there)) (ap f was ∙ sym (get_or-map f vs chunk w [] there)))

-- before the first list
pub none_appended : (old more : List (List ℕ)) → AreAppendedBelow 0 old more old
none_appended old more = record { same = refl; below = λ c low. absurd (omega (arith, low)); above = λ c high. refl }

-- a list more
pub one_appended : (n : ℕ) (first more old new : List (List ℕ)) (list : List ℕ) → AreAppendedBelow n first more old → Extended n list old new → list ≡ get_or more n []
    → AreAppendedBelow (n + 1) first more new
one_appended n first more old new list before one is = record {
  same = one.same ∙ before.same;
  below = λ c low. at c (split c low);
  above = λ c high. one.others c (λ e. apart c high e) ∙ before.above c (omega (arith, high));
}
  where
    apart : (c : ℕ) → n + 1 ≤ c → c ≡ n → ⊥
    apart c high e = omega (arith, high, e)

    split : (c : ℕ) → c < n + 1 → (c ≡ n) ⊎ (c < n)
    split c low = grind (arith, low)

    at : (c : ℕ) → (c ≡ n) ⊎ (c < n) → get_or new c [] ≡ get_or first c [] ++ get_or more c []
    at c (inl e) =
        subst (λ k. get_or new k [] ≡ get_or first k [] ++ get_or more k []) (sym e)
        (one.here ∙ (ap (λ l. l ++ list) (before.above n (omega arith)) ∙ ap (λ l. get_or first n [] ++ l) is))
    at c (inr low) = one.others c (λ e. below c low e) ∙ before.below c low
      where
        below : (c : ℕ) → c < n → c ≡ n → ⊥
        below c low e = omega (arith, low, e)

-- the lists of both ranges
pub lists_both : (test : ℕ → Obj → Bool) (count : ℕ) (objects : List Obj) (from n m : ℕ) (old more new : List (List ℕ))
    → AreListsFrom test count objects from n old → AreListsFrom test count objects (from + n) m more → AreAppendedBelow (length old) old more new
    → AreListsFrom test count objects from (n + m) new
lists_both test count objects from n m old more new a b both = record {
  all = both.same ∙ a.all;
  each = λ c low.
      both.below c (subst (λ k. c < k) (sym a.all) low)
      ∙ (ap (λ l. l ++ get_or more c []) (a.each c low)
      ∙ (ap (λ l. places_from from n (test c) objects ++ l) (b.each c low)
      ∙ sym (filter_both (λ i. passes (test c) (slice_get objects i)) from n m)));
}

-- the rows of both ranges
pub rows_both : (g : Partition) (objects : List Obj) (from n m : ℕ) (own own2 own3 overlap overlap2 overlap3 : List (List ℕ))
    → AreRowLists g objects from n own overlap → AreRowLists g objects (from + n) m own2 overlap2
    → AreAppendedBelow (length own) own own2 own3 → AreAppendedBelow (length overlap) overlap overlap2 overlap3
    → AreRowLists g objects from (n + m) own3 overlap3
rows_both g objects from n m own own2 own3 overlap overlap2 overlap3 a b p q = record {
  own = lists_both _ _ objects from n m own own2 own3 a.own b.own p;
  overlap = lists_both _ _ objects from n m overlap overlap2 overlap3 a.overlap b.overlap q;
}
