-- What a bisection finds among ids that ascend.
use Rattle.std.proofs.Common.{◌≡◌, ◌∙◌, sym, ap, subst, ℕ, ◌<◌, ◌≤◌, arith, false, List, length, map, get_or, Err, ℤ, pos, ◌<ℤ◌, Less, Equal, Greater, int_cmp, ◌⊎◌, inl, inr}
use Rattle.std.specs.Prelude.{AllPairs, IfSome, None, Option, Some}
use Rattle.std.specs.List.{list_any}
use Rattle.std.specs.List.Sorted.{IsBinarySearchResult, IsNonDecreasingBy}
use Rattle.std.specs.Ordering.{int_eq, ordering_index}
use Rattle.std.proofs.lemmas.Int.{ints}
use Rattle.std.proofs.lemmas.List.{get_or-map, length-map}
use Rattle.std.proofs.lemmas.List.Folds.{list_any_none}
use Rattle.std.proofs.lemmas.Option.{get_or_from_slice_get, slice_get-get_or, slice_get_within}
use Rattle.table_rules.specs.Objects.{Obj, IdsAscend}
use Rattle.sky_row.specs.Columns.{no_row}
use Rattle.object_index.specs.Granules.{IsRowWith}
use Rattle.object_index.specs.Indexes.{IsRowOf}

abbrev pub Ascend : List ℤ → Type 0
Ascend ids = AllPairs (λ a b. a <ℤ b) ids

pub equal : (x y : ℤ) → int_cmp x y ≡ Equal → x ≡ y
equal x y h = grind (arith, ints)

lower : (x y : ℤ) → int_cmp x y ≡ Less → x <ℤ y
lower x y h = grind (arith, ints)

higher : (x y : ℤ) → int_cmp x y ≡ Greater → y <ℤ x
higher x y h = grind (arith, ints)

-- an id below another compares no higher
compared : (x y id : ℤ) → x <ℤ y → ordering_index (int_cmp x id) ≤ ordering_index (int_cmp y id)
compared x y id low = grind (arith, ints)

-- ids that ascend compare with an id in ascending order
rises : (ids : List ℤ) (id : ℤ) → Ascend ids → IsNonDecreasingBy (λ z. ordering_index (int_cmp z id)) ids
rises ids id up i j d le within = by (first i j le)
  where
    first : (i j : ℕ) → i ≤ j → (i < j) ⊎ (i ≡ j)
    first i j le = grind arith

    by : (i < j) ⊎ (i ≡ j) → ordering_index (int_cmp (get_or ids i d) id) ≤ ordering_index (int_cmp (get_or ids j d) id)
    by (inl less) = compared _ _ id (up i j d less within)
    by (inr is) = subst (λ k. ordering_index (int_cmp (get_or ids i d) id) ≤ ordering_index (int_cmp (get_or ids k d) id)) is (omega arith)

-- where an id is not found, those before the place are lower
pub before : (ids : List ℤ) (id : ℤ) (i : ℕ) → Ascend ids → IsBinarySearchResult (λ z. int_cmp z id) ids (Err i) → (k : ℕ) (d : ℤ) → k < i → get_or ids k d <ℤ id
before ids id i up h k d less = lower _ id ((h (rises ids id up)).0 k d (omega arith) less)

-- and those behind it are higher
pub behind : (ids : List ℤ) (id : ℤ) (i : ℕ) → Ascend ids → IsBinarySearchResult (λ z. int_cmp z id) ids (Err i) → (k : ℕ) (d : ℤ) → i ≤ k → k < length ids → id <ℤ get_or ids k d
behind ids id i up h k d le within = higher _ id ((h (rises ids id up)).1 k d le within)

other : (x id : ℤ) → (x <ℤ id) ⊎ (id <ℤ x) → int_eq id x ≡ false
other x id (inl less) = grind (arith, ints)
other x id (inr more) = grind (arith, ints)

-- where each id is lower or higher than this one, none is it
pub none_is : (ids : List ℤ) (id : ℤ) → ((k : ℕ) (d : ℤ) → k < length ids → (get_or ids k d <ℤ id) ⊎ (id <ℤ get_or ids k d)) → list_any (int_eq id) ids ≡ false
none_is ids id apart = list_any_none (int_eq id) ids (λ k d within. other _ id (apart k d within))

-- the ids of rows that ascend
pub ids_ascend : (rows : List Obj) → IdsAscend rows → Ascend (map (λ o. o.id) rows)
ids_ascend rows up i j d less within =
    let there : j < length rows = omega (arith, within, length-map rows (λ o. o.id)) in
    rw (get_or-map (λ o. o.id) rows i no_row d (omega (arith, less, there)), get_or-map (λ o. o.id) rows j no_row d there)
    (up i j no_row less there)

apart : (x y : ℤ) → x ≡ y → x <ℤ y → ⊥
apart x y same less = grind (arith, ints)

-- rows of one id stand at one place
one_place : (rows : List Obj) (i j : ℕ) → IdsAscend rows → i < length rows → j < length rows → (get_or rows i no_row).id ≡ (get_or rows j no_row).id → i ≡ j
one_place rows i j up low high same = by (order i j)
  where
    order : (i j : ℕ) → (i < j) ⊎ ((i ≡ j) ⊎ (j < i))
    order i j = grind arith

    by : (i < j) ⊎ ((i ≡ j) ⊎ (j < i)) → i ≡ j
    by (inl less) = absurd (apart _ _ same (up i j no_row less high))
    by (inr (inl is)) = is
    by (inr (inr less)) = absurd (apart _ _ (sym same) (up j i no_row less low))

-- the row that is found by its id is the only one that has it
pub found : (rows : List Obj) (ids : List ℤ) (id : ℤ) (row : ℕ) → ids ≡ map (λ o. o.id) rows → IdsAscend rows → IsRowWith ids id row
    → IsRowOf rows id row (get_or rows row no_row)
found rows ids id row is up with =
    let low : row < length rows = omega (arith, with.there, ap length is, length-map rows (λ o. o.id)) in
    let has : (get_or rows row no_row).id ≡ id =
    sym (ap (λ (l : List ℤ). get_or l row (pos 0)) is ∙ get_or-map (λ o. o.id) rows row no_row (pos 0) low) ∙ with.has
    in
    record {
      at = slice_get-get_or rows row no_row low;
      has = has;
      alone = λ i o there same.
          one_place rows i row up (slice_get_within rows i o there) low
          (ap (λ r. r.id) (get_or_from_slice_get rows i o no_row there) ∙ same ∙ sym has);
    }

-- what follows from what holds of an answer holds of it
pub if_some_then : {A : Type 0} {P Q : A → Type 0} (answer : Option A) → IfSome answer P → ((a : A) → P a → Q a) → IfSome answer Q
if_some_then (Some a) h f = f a h
if_some_then None h f = tt
