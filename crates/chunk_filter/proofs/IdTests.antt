-- Conditions that ask for ids, and the rows on which they hold.
use Rattle.std.proofs.Common.{◌≡◌, ◌∙◌, sym, ap, subst, ℕ, ◌<◌, arith, ℤ, Bool, true, false, ◌||◌, List, [], ◌∷◌, length, get_or, map, replicate, set, filter, Some, slice_get, int_eq}
use Rattle.std.specs.Prelude.{All}
use Rattle.std.proofs.lemmas.Int.{ints}
use Rattle.std.proofs.lemmas.List.{get_or-map, get_or-replicate, length-map, length-replicate}
use Rattle.std.proofs.lemmas.Option.{slice_get_within}
use Rattle.std.proofs.lemmas.Simd.{map-map}
use Rattle.table_rules.specs.Objects.{IdsAscend, Obj}
use Rattle.sky_row.specs.Columns.{AreAscending, no_row}
use Rattle.sql_bound.specs.declared.cond.BoundCond.{BoundCond, out-BoundCond}
use Rattle.sql_tree.specs.declared.cond.Cmp.TheVariants.{Equal}
use Rattle.value_rules.specs.Formulas.{Among, Formula, formula_of, formula_of_pred, negated_if}
use Rattle.value_rules.specs.Terms.{Column, Term}
use Rattle.value_rules.specs.Truth.{is_one_of}
use Rattle.expr_eval.proofs.Layers.{cond_parts}
use Rattle.column_vectors.specs.PickedColumns.{first_col}
use Rattle.lane_filter.specs.Tests.{places_of}
use Rattle.chunk_filter.specs.declared.predicate.Predicate.TheVariants.{Compare}
use Rattle.chunk_filter.specs.declared.predicate.Vectorized.{Vectorized}
use Rattle.chunk_filter.specs.Asking.{AsksForIds, IsVectorized, asks, holds_on}
use Rattle.chunk_filter.specs.Selection.{AreDone, IsNarrowed, IsNarrowedBy, meets_at, selection}
use Rattle.chunk_filter.proofs.Narrowing.{narrowed_more, narrowed_none}
use Rattle.chunk_filter.proofs.Places.{done_at_places, places_below, selection_places}

turned : (a b : ℤ) → int_eq a b ≡ (int_eq b a || false)
turned a b = grind (arith, ints)

-- a comparison that is the whole condition
pub one_id : (f : Formula) (e : Vectorized) (id : ℤ) → IsVectorized f e → e.whole ≡ true → e.test ≡ Compare 0 Equal id → AsksForIds f (id ∷ [])
one_id f e id h whole is o = sym (h.whole whole o) ∙ (ap (λ t. asks t o) is ∙ turned o.id id)

-- an IN of ids
pub listed_ids : (t : Term) (list : List ℤ) → t ≡ Column (first_col 0) → AsksForIds (negated_if false (Among t list)) list
listed_ids t list is o = ap (λ t. holds_on (Among t list) o) is

-- a condition without NOT asks for what its predicate asks for
pub plain_ids : (c : BoundCond) (ids : List ℤ) → (out-BoundCond c).not ≡ false → AsksForIds (formula_of_pred (out-BoundCond c).pred) ids → AsksForIds (formula_of c) ids
plain_ids c ids is h =
    subst (λ f. AsksForIds f ids)
    (sym (cond_parts c ∙ ap (λ b. negated_if b (formula_of_pred (out-BoundCond c).pred)) is)) h

-- the ids of rows that ascend
pub ids_ascend : (objects : List Obj) (ids : List ℤ) → ids ≡ map (λ o. o.id) objects → IdsAscend objects → AreAscending ids
ids_ascend objects ids is up = subst AreAscending (sym is) (λ i j d less within.
    let there : j < length objects = omega (arith, within, length-map objects (λ o. o.id)) in
    rw (get_or-map (λ o. o.id) objects i no_row d (omega (arith, less, there)), get_or-map (λ o. o.id) objects j no_row d there)
    (up i j no_row less there))

-- the rows that have one of the ids are those on which the condition holds
pub rows_held : (f : Formula) (objects : List Obj) (ids wanted : List ℤ) (places : List ℕ) → ids ≡ map (λ o. o.id) objects → AsksForIds f wanted
    → places ≡ places_of (map (is_one_of wanted) ids) → places ≡ places_of (map (holds_on f) objects)
rows_held f objects ids wanted places is h found =
    found
    ∙ (ap (λ l. places_of (map (is_one_of wanted) l)) is
    ∙ (ap places_of (map-map (is_one_of wanted) (λ (o : Obj). o.id) objects)
    ∙ (λ i. places_of (map (λ o. sym (h o) i) objects))))

-- ---- the rows of one condition, as a mask

-- the mask that is true on the rows on which the condition holds
abbrev pub held_mask : BoundCond → List Obj → List Bool
held_mask c objects = map (holds_on (formula_of c)) objects

narrowed_exactly : (c : BoundCond) (objects : List Obj) → IsNarrowedBy c objects true (replicate (length objects) true) (held_mask c objects)
narrowed_exactly c objects = record {
  count = length-map objects (holds_on (formula_of c)) ∙ sym (length-replicate (length objects) true);
  back = λ k low stands. get_or-replicate (length objects) k true false (there k low);
  kept = λ k low stands holds. at k (there k low) ∙ holds;
  done = λ flag k low stands. sym (at k (there k low)) ∙ stands;
}
  where
    there : (k : ℕ) → k < length (replicate (length objects) true) → k < length objects
    there k low = omega (arith, low, length-replicate (length objects) true)

    at : (k : ℕ) → k < length objects → get_or (held_mask c objects) k false ≡ holds_on (formula_of c) (get_or objects k no_row)
    at k low = get_or-map (holds_on (formula_of c)) objects k no_row false low

-- the mask after this condition alone
pub narrowed_at : (conds : List BoundCond) (objects : List Obj) (i : ℕ) (c : BoundCond) → slice_get conds i ≡ Some c
    → IsNarrowed conds objects (set (replicate (length conds) false) i true) (held_mask c objects)
narrowed_at conds objects i c at =
    narrowed_more conds objects (replicate (length conds) false) (replicate (length objects) true) (held_mask c objects) i c true
    (omega (arith, length-replicate (length conds) false, slice_get_within conds i c at)) at (narrowed_exactly c objects)
    (narrowed_none conds objects (length conds))

-- the rows found are of the block
pub found_below : (conds : List BoundCond) (objects : List Obj) (i : ℕ) (c : BoundCond) (places : List ℕ) → slice_get conds i ≡ Some c
    → places ≡ places_of (held_mask c objects) → All (λ place. place < length objects) places
found_below conds objects i c places at is =
    subst (All (λ place. place < length objects)) (sym is)
    (places_below conds objects (set (replicate (length conds) false) i true) (held_mask c objects) (narrowed_at conds objects i c at))

-- they meet the condition
pub found_done : (conds : List BoundCond) (objects : List Obj) (i : ℕ) (c : BoundCond) (places : List ℕ) (done : List Bool) → slice_get conds i ≡ Some c
    → places ≡ places_of (held_mask c objects) → done ≡ set (replicate (length conds) false) i true → AreDone conds objects done places
found_done conds objects i c places done at is flags =
    subst (λ d. AreDone conds objects d places) (sym flags)
    (subst (AreDone conds objects (set (replicate (length conds) false) i true)) (sym is)
    (done_at_places conds objects (set (replicate (length conds) false) i true) (held_mask c objects) (narrowed_at conds objects i c at)))

-- those of them that meet all conditions are the rows that do
pub found_selection : (conds : List BoundCond) (objects : List Obj) (i : ℕ) (c : BoundCond) (places new : List ℕ) → slice_get conds i ≡ Some c
    → places ≡ places_of (held_mask c objects) → new ≡ filter (meets_at conds objects) places → new ≡ selection conds objects
found_selection conds objects i c places new at is kept =
    kept ∙ (ap (filter (meets_at conds objects)) is
    ∙ selection_places conds objects (set (replicate (length conds) false) i true) (held_mask c objects) (narrowed_at conds objects i c at))
