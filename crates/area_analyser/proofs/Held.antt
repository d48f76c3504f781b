-- Which chunks hold a row with one of some ids.
use Rattle.std.proofs.Common.{◌≡◌, ◌∙◌, sym, refl, ap, subst, ℕ, ◌<◌, ◌==◌, arith, ℤ, Bool, true, false, ◌&&◌, ◌||◌, List, [], ◌∷◌, ◌++◌, length, slice_get, Some}
use Rattle.std.specs.List.{Any}
use Rattle.std.specs.Ordering.{int_eq}
use Rattle.std.proofs.lemmas.Bool.{false≢true, or_parts}
use Rattle.std.proofs.lemmas.Int.{ints}
use Rattle.std.proofs.lemmas.List.Folds.{Any-from_list_any, list_any_at}
use Rattle.std.proofs.lemmas.Option.{get_or_from_slice_get, same_Some, slice_get_read, slice_get_within}
use Rattle.table_rules.specs.Objects.{Obj}
use Rattle.table_rules.specs.Ordered.{has_id}
use Rattle.sky_rules.specs.Partition.{Partition, chunk_count}
use Rattle.sky_rules.specs.Bounds.{in_chunk}
use Rattle.scan_rules.proofs.Ascending.{same_test}
use Rattle.scan_rules.proofs.Lists.{any_agree, any_append, any_or}
use Rattle.value_rules.specs.Truth.{is_one_of}
use Rattle.object_index.specs.Indexes.{IsPlaceOf}
use Rattle.answer_rules.specs.Plans.{holds_id}

-- no chunk holds one of no ids
pub none_held : (g : Partition) (rows : List Obj) (c : ℕ) → holds_id g rows c [] ≡ false
none_held g [] c = refl
none_held g (o ∷ rows) c = none_held g rows c

either : (a b h : Bool) → ((a || b) && h) ≡ ((a && h) || (b && h))
either true true true = refl
either true true false = refl
either true false true = refl
either true false false = refl
either false b h = refl

-- a chunk holds one of the ids of two lists where it holds one of either
pub held_of_both : (g : Partition) (rows : List Obj) (c : ℕ) (ids more : List ℤ) → holds_id g rows c (ids ++ more) ≡ (holds_id g rows c ids || holds_id g rows c more)
held_of_both g rows c ids more =
    any_agree (λ o. is_one_of (ids ++ more) o.id && in_chunk g c o.at) (λ o. (is_one_of ids o.id && in_chunk g c o.at) || (is_one_of more o.id && in_chunk g c o.at))
    (λ o. ap (λ b. b && in_chunk g c o.at) (any_append (λ n. int_eq n o.id) ids more) ∙ either (is_one_of ids o.id) (is_one_of more o.id) (in_chunk g c o.at)) rows
    ∙ any_or (λ o. is_one_of ids o.id && in_chunk g c o.at) (λ o. is_one_of more o.id && in_chunk g c o.at) rows

-- no chunk holds an id that no row has
pub unheld : (g : Partition) (rows : List Obj) (c : ℕ) (id : ℤ) → has_id rows id ≡ false → holds_id g rows c (id ∷ []) ≡ false
unheld g [] c id none = refl
unheld g (o ∷ rows) c id none =
    let parts = or_parts (int_eq id o.id) (has_id rows id) none in
    ap (λ b. ((b || false) && in_chunk g c o.at) || holds_id g rows c (id ∷ [])) parts.0 ∙ unheld g rows c id parts.1

and_parts : (a b : Bool) → ((a || false) && b) ≡ true → (a ≡ true) × (b ≡ true)
and_parts true true h = (refl, refl)
and_parts true false h = (refl, h)
and_parts false b h = (h, absurd (false≢true h))

is_id : (a b : ℤ) → int_eq a b ≡ true → b ≡ a
is_id a b h = grind (arith, ints)

itself : (a b : ℤ) → b ≡ a → int_eq a b ≡ true
itself a b h = grind (arith, ints)

number_is : (a b : ℕ) → (a == b) ≡ true → a ≡ b
number_is a b h = grind arith

is_number : (a b : ℕ) → b ≡ a → (a == b) ≡ true
is_number a b h = grind arith

-- the chunk that holds an id is that of its place
pub held : (g : Partition) (rows : List Obj) (c : ℕ) (id : ℤ) (chunk row : ℕ) → c < chunk_count g → IsPlaceOf g rows id chunk row → holds_id g rows c (id ∷ []) ≡ (chunk == c)
held g rows c id chunk row there place = same_test (holds_id g rows c (id ∷ [])) (chunk == c) (λ h. to (Any-from_list_any with rows h)) (λ h. from (number_is chunk c h))
  where
    with : Obj → Bool
    with o = is_one_of (id ∷ []) o.id && in_chunk g c o.at

    to : Any (λ o. with o ≡ true) rows → (chunk == c) ≡ true
    to (k, o, low, at, ok) =
        let parts = and_parts (int_eq id o.id) (in_chunk g c o.at) ok in
        let read : slice_get rows k ≡ Some o = slice_get_read rows (length rows) k o refl low (sym at) in
        let same : k ≡ row = place.is.alone k o read (is_id id o.id parts.0) in
        let it : o ≡ place.object = same_Some o place.object (sym read ∙ ap (slice_get rows) same ∙ place.is.at) in
        is_number chunk c (place.only c there (subst (λ r. in_chunk g c r.at ≡ true) it parts.1))

    from : chunk ≡ c → holds_id g rows c (id ∷ []) ≡ true
    from is =
        list_any_at with rows row place.object (slice_get_within rows row place.object place.is.at)
        (subst (λ o. with o ≡ true) (sym (get_or_from_slice_get rows row place.object place.object place.is.at)) passes)
      where
        passes : with place.object ≡ true
        passes =
            ap (λ b. (b || false) && in_chunk g c place.object.at) (itself id place.object.id place.is.has)
            ∙ subst (λ n. in_chunk g n place.object.at ≡ true) is place.holds
