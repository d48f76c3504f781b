-- The object that a search among ascending ids finds.
use Rattle.std.proofs.Common.{◌≡◌, ℕ, zero, suc, ◌<◌, ℤ, ◌<ℤ◌, Bool, true, false, cond, ◌||◌, List, [], ◌∷◌, length, map, get_or, Option, Some, None, refl, sym, ap, ◌∙◌, arith, inl, inr, ◌⊎◌, ◌≤◌, Err, int_cmp}
use Rattle.std.specs.Prelude.{IfNone, find}
use Rattle.std.specs.List.{list_any}
use Rattle.std.specs.List.Sorted.{IsBinarySearchResult}
use Rattle.std.specs.Ordering.{int_eq}
use Rattle.std.proofs.lemmas.Bool.{cases_lt}
use Rattle.object_index.proofs.Ascending.{Ascend, before, behind, none_is}
use Rattle.std.proofs.lemmas.Int.{ints}
use Rattle.std.proofs.lemmas.List.Elements.{All-from_recursion, All-get_or}
use Rattle.table_rules.specs.Objects.{Obj, IdsAscend}
use Rattle.sky_row.specs.Columns.{no_row}
use Rattle.answer_rules.proofs.Apart.{IdsClimb, ids_climb}

same_id : (a b : ℤ) → a ≡ b → int_eq a b ≡ true
same_id a b h = grind (arith, ints)

other_id : (id a b : ℤ) → b ≡ id → a <ℤ b → int_eq id a ≡ false
other_id id a b e h = grind (arith, ints)

-- of ids that ascend the one at a place is found there
found_by : (id : ℤ) (os : List Obj) (i : ℕ) → IdsClimb os → i < length os → (get_or os i no_row).id ≡ id → find (λ o. int_eq id o.id) os ≡ Some (get_or os i no_row)
found_by id [] i up h e = absurd (omega (arith, h))
found_by id (o ∷ os) zero up h e = ap (λ b. cond b (Some o) (find (λ p. int_eq id p.id) os)) (same_id id o.id (sym e))
found_by id (o ∷ os) (suc i) up h e =
    let above : o.id <ℤ (get_or os i no_row).id = All-get_or (λ p. o.id <ℤ p.id) os i no_row (omega (arith, h)) (All-from_recursion (λ p. o.id <ℤ p.id) os up.0) in
    ap (λ b. cond b (Some o) (find (λ p. int_eq id p.id) os)) (other_id id o.id (get_or os i no_row).id e above) ∙ found_by id os i up.1 (omega (arith, h)) e

pub found_at : (id : ℤ) (os : List Obj) (i : ℕ) → IdsAscend os → i < length os → (get_or os i no_row).id ≡ id → find (λ o. int_eq id o.id) os ≡ Some (get_or os i no_row)
found_at id os i up h e = found_by id os i (ids_climb os up) h e

none_step : (o : Obj) (rest : Option Obj) (b c : Bool) → (b || c) ≡ false → (c ≡ false → rest ≡ None) → cond b (Some o) rest ≡ None
none_step o rest true c h f = absurd (cc h)
none_step o rest false c h f = f h

pub found_none : (id : ℤ) (os : List Obj) → list_any (int_eq id) (map (λ o. o.id) os) ≡ false → find (λ o. int_eq id o.id) os ≡ None
found_none id [] h = refl
found_none id (o ∷ os) h = none_step o (find (λ p. int_eq id p.id) os) (int_eq id o.id) (list_any (int_eq id) (map (λ p. p.id) os)) h (λ e. found_none id os e)

-- where a bisection finds nothing, no id is it
pub none_found : (ids : List ℤ) (id : ℤ) (i : ℕ) → Ascend ids → IsBinarySearchResult (λ z. int_cmp z id) ids (Err i) → list_any (int_eq id) ids ≡ false
none_found ids id i up h = none_is ids id (λ k d within. by_side k d within (cases_lt k i))
  where
    by_side : (k : ℕ) (d : ℤ) → k < length ids → (k < i) ⊎ (i ≤ k) → (get_or ids k d <ℤ id) ⊎ (id <ℤ get_or ids k d)
    by_side k d within (inl l) = inl (before ids id i up h k d l)
    by_side k d within (inr l) = inr (behind ids id i up h k d l within)

pub if_none_then : {A : Type 0} {P Q : Type 0} (answer : Option A) → IfNone answer P → (P → Q) → IfNone answer Q
if_none_then None h f = f h
if_none_then (Some a) h f = tt
