-- Rows in ascending order of id: rows no two of which have the same id have one such table.
use Rattle.std.proofs.Common.{◌≡◌, ◌∙◌, sym, refl, subst, ap, ℕ, ◌<◌, zero, suc, arith, Bool, true, false, List, [], ◌∷◌, map, length, get_or, ℤ, ◌<ℤ◌, int_lt, ◌⊎◌, inl, inr}
use Rattle.std.specs.Prelude.{AllPairs}
use Rattle.std.specs.Bool.{⊤}
use Rattle.std.specs.Ordering.{int_eq}
use Rattle.std.specs.List.{AllByRecursion, Contains, IsDistinct}
use Rattle.std.specs.List.Sorted.{IsPermutation}
use Rattle.std.proofs.lemmas.Int.{ints}
use Rattle.std.proofs.lemmas.List.Elements.{All-from_recursion, recursion_from_All}
use Rattle.std.proofs.lemmas.List.Kept.{AllPairs-cons}
use Rattle.std.proofs.lemmas.List.Sorted.{IsPermutation-refl, IsPermutation-sym, IsPermutation-trans, IsPermutation-cons, IsPermutation-middle, IsPermutation-map, Contains-permutation}
use Rattle.std.proofs.lemmas.Map.Keys.{IsDistinct-IsPermutation}
use Rattle.table_rules.specs.IdOrder.{HaveDistinctIds, IsInOrder, in_id_order, with_one}

below_both : (x y z : ℤ) → x <ℤ y → y <ℤ z → x <ℤ z
below_both x y z a b = omega (arith, ints)

not_below_itself : (x : ℤ) → x <ℤ x → ⊥
not_below_itself x h = omega (arith, ints)

is_below : (x y : ℤ) → int_lt x y ≡ true → x <ℤ y
is_below x y h = grind (arith, ints)

is_above : (x y : ℤ) → int_lt x y ≡ false → int_eq x y ≡ false → y <ℤ x
is_above x y a b = grind (arith, ints)

apart_if_below : (x y : ℤ) → x <ℤ y → int_eq x y ≡ false
apart_if_below x y h = grind (arith, ints)

same_both_ways : (x y : ℤ) → int_eq x y ≡ int_eq y x
same_both_ways x y = grind (arith, ints)

module _ {R : Type 0} (id_of : R → ℤ) where
  -- the ids ascend
  abbrev Ascend : List R → Type 0
  Ascend rows = AllPairs (λ a b. id_of a <ℤ id_of b) rows

  -- each id is above z
  abbrev Above : ℤ → List R → Type 0
  Above z rows = AllByRecursion (λ b. z <ℤ id_of b) rows

  -- each id is above those before it
  abbrev Climbs : List R → Type 0
  Climbs [] = ⊤
  Climbs (a ∷ rest) = Above (id_of a) rest × Climbs rest

  -- one more row among others is one more row
  more_by : (o first : R) (rest : List R) (t : Bool) → int_lt (id_of o) (id_of first) ≡ t
      → IsPermutation (o ∷ rest) (with_one id_of o rest) → IsPermutation (o ∷ first ∷ rest) (with_one id_of o (first ∷ rest))
  more_by o first rest true e h = rw e (IsPermutation-refl (o ∷ first ∷ rest))
  more_by o first rest false e h =
      rw e (IsPermutation-trans (o ∷ first ∷ rest) (first ∷ o ∷ rest) (first ∷ with_one id_of o rest)
      (IsPermutation-sym (first ∷ o ∷ rest) (o ∷ first ∷ rest) (IsPermutation-middle (first ∷ []) o rest))
      (IsPermutation-cons first (o ∷ rest) (with_one id_of o rest) h))

  one_more : (o : R) (rows : List R) → IsPermutation (o ∷ rows) (with_one id_of o rows)
  one_more o [] = IsPermutation-refl (o ∷ [])
  one_more o (first ∷ rest) = more_by o first rest (int_lt (id_of o) (id_of first)) refl (one_more o rest)

  -- the rows in ascending order of id are the same rows
  pub same_in_order : (rows : List R) → IsPermutation rows (in_id_order id_of rows)
  same_in_order [] = IsPermutation-refl []
  same_in_order (o ∷ rest) =
      IsPermutation-trans (o ∷ rest) (o ∷ in_id_order id_of rest) (with_one id_of o (in_id_order id_of rest))
      (IsPermutation-cons o rest (in_id_order id_of rest) (same_in_order rest)) (one_more o (in_id_order id_of rest))

  above_later : (x y : ℤ) (rows : List R) → x <ℤ y → Above y rows → Above x rows
  above_later x y [] low h = tt
  above_later x y (a ∷ rest) low h = (below_both x y (id_of a) low h.0, above_later x y rest low h.1)

  above_with_by : (z : ℤ) (o first : R) (rest : List R) (t : Bool) → int_lt (id_of o) (id_of first) ≡ t
      → z <ℤ id_of o → Above z (first ∷ rest) → Above z (with_one id_of o rest) → Above z (with_one id_of o (first ∷ rest))
  above_with_by z o first rest true e low h later = rw e (low, h)
  above_with_by z o first rest false e low h later = rw e (h.0, later)

  above_with : (z : ℤ) (o : R) (rows : List R) → z <ℤ id_of o → Above z rows → Above z (with_one id_of o rows)
  above_with z o [] low h = (low, tt)
  above_with z o (first ∷ rest) low h =
      above_with_by z o first rest (int_lt (id_of o) (id_of first)) refl low h (above_with z o rest low h.1)

  climbs_with_by : (o first : R) (rest : List R) (t : Bool) → int_lt (id_of o) (id_of first) ≡ t → int_eq (id_of o) (id_of first) ≡ false
      → Climbs (first ∷ rest) → Climbs (with_one id_of o rest) → Climbs (with_one id_of o (first ∷ rest))
  climbs_with_by o first rest true e apart up later =
      let low = is_below (id_of o) (id_of first) e in
      rw e ((low, above_later (id_of o) (id_of first) rest low up.0), up)
  climbs_with_by o first rest false e apart up later =
      rw e (above_with (id_of first) o rest (is_above (id_of o) (id_of first) e apart) up.0, later)

  climbs_with : (o : R) (rows : List R) → AllByRecursion (λ z. int_eq (id_of o) z ≡ false) (map id_of rows) → Climbs rows → Climbs (with_one id_of o rows)
  climbs_with o [] apart up = (tt, tt)
  climbs_with o (first ∷ rest) apart up =
      climbs_with_by o first rest (int_lt (id_of o) (id_of first)) refl apart.0 up (climbs_with o rest apart.1 up.1)

  -- what holds of each id of the rows holds of each in ascending order
  each_with_by : (P : ℤ → Type 0) (o first : R) (rest : List R) (t : Bool) → int_lt (id_of o) (id_of first) ≡ t → P (id_of o)
      → AllByRecursion P (map id_of (first ∷ rest)) → AllByRecursion P (map id_of (with_one id_of o rest))
      → AllByRecursion P (map id_of (with_one id_of o (first ∷ rest)))
  each_with_by P o first rest true e here h later = rw e (here, h)
  each_with_by P o first rest false e here h later = rw e (h.0, later)

  each_with : (P : ℤ → Type 0) (o : R) (rows : List R) → P (id_of o) → AllByRecursion P (map id_of rows)
      → AllByRecursion P (map id_of (with_one id_of o rows))
  each_with P o [] here h = (here, tt)
  each_with P o (first ∷ rest) here h =
      each_with_by P o first rest (int_lt (id_of o) (id_of first)) refl here h (each_with P o rest here h.1)

  each_in_order : (P : ℤ → Type 0) (rows : List R) → AllByRecursion P (map id_of rows) → AllByRecursion P (map id_of (in_id_order id_of rows))
  each_in_order P [] h = tt
  each_in_order P (o ∷ rest) h = each_with P o (in_id_order id_of rest) h.0 (each_in_order P rest h.1)

  climbs_in_order : (rows : List R) → HaveDistinctIds id_of rows → Climbs (in_id_order id_of rows)
  unfolding IsDistinct
  climbs_in_order [] h = tt
  climbs_in_order (o ∷ rest) h =
      climbs_with o (in_id_order id_of rest) (each_in_order (λ z. int_eq (id_of o) z ≡ false) rest h.0) (climbs_in_order rest h.1)

  ascend : (rows : List R) → Climbs rows → Ascend rows
  ascend [] up = λ i j d low within. absurd (omega arith)
  ascend (a ∷ rest) up =
      AllPairs-cons (λ a b. id_of a <ℤ id_of b) a rest (All-from_recursion (λ b. id_of a <ℤ id_of b) rest up.0) (ascend rest up.1)

  climbs : (rows : List R) → Ascend rows → Climbs rows
  climbs [] up = tt
  climbs (a ∷ rest) up = (
    recursion_from_All (λ b. id_of a <ℤ id_of b) rest (λ k d low. up 0 (suc k) d (omega arith) (omega arith)),
    climbs rest (λ i j d low high. up (suc i) (suc j) d (omega arith) (omega arith)),
  )

  -- rows with distinct ids are a table in ascending order of id
  pub distinct_in_order : (rows : List R) → HaveDistinctIds id_of rows → IsInOrder id_of rows (in_id_order id_of rows)
  distinct_in_order rows h = record { same = same_in_order rows; ascend = ascend (in_id_order id_of rows) (climbs_in_order rows h) }

  distinct_above : (z : ℤ) (rows : List R) → Above z rows → AllByRecursion (λ y. int_eq z y ≡ false) (map id_of rows)
  distinct_above z [] h = tt
  distinct_above z (a ∷ rest) h = (apart_if_below z (id_of a) h.0, distinct_above z rest h.1)

  climbs_distinct : (rows : List R) → Climbs rows → HaveDistinctIds id_of rows
  unfolding IsDistinct
  climbs_distinct [] up = tt
  climbs_distinct (a ∷ rest) up = (distinct_above (id_of a) rest up.0, climbs_distinct rest up.1)

  -- rows that have a table have no id twice
  pub distinct_by_table : (rows table : List R) → IsInOrder id_of rows table → HaveDistinctIds id_of rows
  distinct_by_table rows table is =
      IsDistinct-IsPermutation int_eq same_both_ways (map id_of table) (map id_of rows)
      (IsPermutation-map id_of table rows (IsPermutation-sym rows table is.same)) (climbs_distinct table (climbs table is.ascend))

  -- the row is one of these
  abbrev IsIn : R → List R → Type 0
  IsIn o [] = ⊥
  IsIn o (a ∷ rest) = (o ≡ a) ⊎ IsIn o rest

  in_from : (o : R) (rows : List R) (k : ℕ) → k < length rows → get_or rows k o ≡ o → IsIn o rows
  in_from o [] k within e = absurd (omega arith)
  in_from o (a ∷ rest) zero within e = inl (sym e)
  in_from o (a ∷ rest) (suc k) within e = inr (in_from o rest k (omega arith) e)

  contains_from : (o : R) (rows : List R) → IsIn o rows → Contains rows o
  contains_from o [] h = absurd h
  contains_from o (a ∷ rest) (inl e) = (0, omega arith, sym e)
  contains_from o (a ∷ rest) (inr h) = let c = contains_from o rest h in (suc c.0, omega (arith, c.1), c.2)

  moved : (rows other : List R) → IsPermutation rows other → (o : R) → IsIn o rows → IsIn o other
  moved rows other same o h =
      let c = Contains-permutation rows other o same (contains_from o rows h) in
      in_from o other c.0 c.1 c.2

  above_in : (z : ℤ) (o : R) (rows : List R) → Above z rows → IsIn o rows → z <ℤ id_of o
  above_in z o [] up h = absurd h
  above_in z o (a ∷ rest) up (inl e) = subst (λ b. z <ℤ id_of b) (sym e) up.0
  above_in z o (a ∷ rest) up (inr h) = above_in z o rest up.1 h

  same_head : (a b : R) (rest other : List R) → Above (id_of a) rest → Above (id_of b) other → IsIn a (b ∷ other) → IsIn b (a ∷ rest) → a ≡ b
  same_head a b rest other up up2 (inl e) g = e
  same_head a b rest other up up2 (inr f) (inl e) = sym e
  same_head a b rest other up up2 (inr f) (inr g) =
      absurd (not_below_itself (id_of a) (below_both (id_of a) (id_of b) (id_of a) (above_in (id_of a) b rest up g) (above_in (id_of b) a other up2 f)))

  after_head : (a o : R) (other : List R) → id_of a <ℤ id_of o → IsIn o (a ∷ other) → IsIn o other
  after_head a o other low (inl e) = absurd (not_below_itself (id_of a) (subst (λ b. id_of a <ℤ id_of b) e low))
  after_head a o other low (inr h) = h

  -- two lists that ascend and have the same rows are one list
  same_rows : (rows other : List R) → Climbs rows → Climbs other → ((o : R) → IsIn o rows → IsIn o other) → ((o : R) → IsIn o other → IsIn o rows) → rows ≡ other
  same_rows [] [] up up2 f g = refl
  same_rows [] (b ∷ other) up up2 f g = absurd (g b (inl refl))
  same_rows (a ∷ rest) [] up up2 f g = absurd (f a (inl refl))
  same_rows (a ∷ rest) (b ∷ other) up up2 f g =
      let e : a ≡ b = same_head a b rest other up.0 up2.0 (f a (inl refl)) (g b (inl refl)) in
      let tails = same_rows rest other up.1 up2.1
      (λ o h. after_head b o other (subst (λ c. id_of c <ℤ id_of o) e (above_in (id_of a) o rest up.0 h)) (f o (inr h)))
      (λ o h. after_head a o rest (subst (λ c. id_of c <ℤ id_of o) (sym e) (above_in (id_of b) o other up2.0 h)) (g o (inr h))) in
      ap (λ c. c ∷ rest) e ∙ ap (λ l. b ∷ l) tails

  -- rows have one table at most
  pub one_order : (rows table : List R) → IsInOrder id_of rows table → table ≡ in_id_order id_of rows
  one_order rows table is =
      let other = distinct_in_order rows (distinct_by_table rows table is) in
      let there : IsPermutation table (in_id_order id_of rows) = IsPermutation-trans table rows (in_id_order id_of rows) (IsPermutation-sym rows table is.same) other.same in
      let back : IsPermutation (in_id_order id_of rows) table = IsPermutation-sym table (in_id_order id_of rows) there in
      same_rows table (in_id_order id_of rows) (climbs table is.ascend) (climbs (in_id_order id_of rows) other.ascend)
      (moved table (in_id_order id_of rows) there) (moved (in_id_order id_of rows) table back)
