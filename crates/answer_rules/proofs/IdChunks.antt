-- A chunk holds a row with one of some ids exactly where it is the chunk of one of the ids.
use Rattle.std.proofs.Common.{◌≡◌, ℕ, suc, ◌<◌, ℤ, ◌<ℤ◌, Bool, true, false, cond, ◌&&◌, ◌||◌, List, [], ◌∷◌, Option, Some, refl, sym, ap, ◌∙◌, arith}
use Rattle.std.specs.Prelude.{find}
use Rattle.std.specs.List.{AllByRecursion as Each, list_any}
use Rattle.std.specs.Option.{option_and_then}
use Rattle.std.specs.Ordering.{int_eq}
use Rattle.std.proofs.lemmas.Int.{ints}
use Rattle.std.proofs.lemmas.List.Elements.{recursion_from_All, All-head, All-tail}
use Rattle.sky_vector.specs.Points.{IsAdmissible}
use Rattle.table_rules.specs.Objects.{Obj, IdsAscend}
use Rattle.sky_rules.specs.Limits.{IsSky}
use Rattle.sky_rules.specs.Partition.{Partition, chunk_count}
use Rattle.sky_rules.specs.Bounds.{in_chunk}
use Rattle.value_rules.specs.Truth.{is_one_of}
use Rattle.answer_rules.specs.Coverage.{AreInTheSky}
use Rattle.answer_rules.specs.Picks.{chunk_holding, is_there_among}
use Rattle.answer_rules.specs.Plans.{chunk_of_id}
use Rattle.answer_rules.specs.PlanLaws.{IdsByTheirChunks}
use Rattle.answer_rules.proofs.Chunks.{lies_in_one}

-- an id that stands below another is not it
other_id : (id a b : ℤ) → int_eq id a ≡ true → a <ℤ b → int_eq id b ≡ false
other_id id a b e low = grind (arith, ints)

-- no later row has the id
none_later : (f : Obj → Bool) (id a : ℤ) (rows : List Obj) → int_eq id a ≡ true → Each (λ r. a <ℤ r.id) rows → list_any (λ r. int_eq id r.id && f r) rows ≡ false
none_later f id a [] e above = refl
none_later f id a (r ∷ rows) e above =
    ap (λ b. (b && f r) || list_any (λ q. int_eq id q.id && f q) rows) (other_id id a r.id e above.0) ∙ none_later f id a rows e above.1

or_false : (a : Bool) → (a || false) ≡ a
or_false true = refl
or_false false = refl

above_first : (o : Obj) (rows : List Obj) → IdsAscend (o ∷ rows) → Each (λ r. o.id <ℤ r.id) rows
above_first o rows up = recursion_from_All (λ r. o.id <ℤ r.id) rows (λ k d within. up 0 (suc k) d (omega arith) (omega (arith, within)))

rest_ascend : (o : Obj) (rows : List Obj) → IdsAscend (o ∷ rows) → IdsAscend rows
rest_ascend o rows up i j d less within = up (suc i) (suc j) d (omega (arith, less)) (omega (arith, within))

-- the row that there may be lies in the chunk
abbrev is_held : Partition → ℕ → Option Obj → Bool
is_held g c o = is_there_among (c ∷ []) (option_and_then (λ o. chunk_holding g o.at) o)

found_step : (g : Partition) (c : ℕ) (o : Obj) (b holds later : Bool) (rest : Option Obj) → is_held g c (Some o) ≡ holds → (b ≡ true → later ≡ false)
    → later ≡ is_held g c rest → ((b && holds) || later) ≡ is_held g c (cond b (Some o) rest)
found_step g c o true holds later rest h none e = ap (λ l. holds || l) (none refl) ∙ or_false holds ∙ sym h
found_step g c o false holds later rest h none e = e

-- a chunk holds the row with the id exactly where it is the chunk of the id
id_held : (g : Partition) (table : List Obj) (c : ℕ) (id : ℤ) → IsSky g → c < chunk_count g → AreInTheSky table → IdsAscend table
    → list_any (λ o. int_eq id o.id && in_chunk g c o.at) table ≡ is_there_among (c ∷ []) (chunk_of_id g table id)
id_held g [] c id sky there at up = refl
id_held g (o ∷ rows) c id sky there at up =
    found_step g c o (int_eq id o.id) (in_chunk g c o.at) (list_any (λ r. int_eq id r.id && in_chunk g c r.at) rows) (find (λ r. int_eq id r.id) rows)
    (lies_in_one g o.at c sky (All-head (λ r. IsAdmissible r.at) o rows at) there)
    (λ same. none_later (λ r. in_chunk g c r.at) id o.id rows same (above_first o rows up))
    (id_held g rows c id sky there (All-tail (λ r. IsAdmissible r.at) o rows at) (rest_ascend o rows up))

none_of_none : (f : Obj → Bool) (table : List Obj) → list_any (λ o. false && f o) table ≡ false
none_of_none f [] = refl
none_of_none f (o ∷ rows) = none_of_none f rows

either_step : (a b h p q : Bool) → (((a || b) && h) || (p || q)) ≡ (((a && h) || p) || ((b && h) || q))
either_step true true true p q = refl
either_step true true false p q = refl
either_step true false true p q = refl
either_step true false false p q = refl
either_step false true true true q = refl
either_step false true true false q = refl
either_step false true false p q = refl
either_step false false true p q = refl
either_step false false false p q = refl

either : (a b f : Obj → Bool) (table : List Obj) → list_any (λ o. (a o || b o) && f o) table ≡ (list_any (λ o. a o && f o) table || list_any (λ o. b o && f o) table)
either a b f [] = refl
either a b f (o ∷ rows) =
    ap (λ l. ((a o || b o) && f o) || l) (either a b f rows)
    ∙ either_step (a o) (b o) (f o) (list_any (λ r. a r && f r) rows) (list_any (λ r. b r && f r) rows)

-- some row has one of the ids: for one of the ids some row has it
id_by_id : (f : Obj → Bool) (table : List Obj) (ids : List ℤ) → list_any (λ o. is_one_of ids o.id && f o) table ≡ list_any (λ id. list_any (λ o. int_eq id o.id && f o) table) ids
id_by_id f table [] = none_of_none f table
id_by_id f table (id ∷ ids) =
    either (λ o. int_eq id o.id) (λ o. is_one_of ids o.id) f table
    ∙ ap (λ l. list_any (λ o. int_eq id o.id && f o) table || l) (id_by_id f table ids)

any_same : {X : Type 0} (p q : X → Bool) (xs : List X) → ((x : X) → p x ≡ q x) → list_any p xs ≡ list_any q xs
any_same p q [] h = refl
any_same p q (x ∷ xs) h = ap (λ b. b || list_any p xs) (h x) ∙ ap (λ l. q x || l) (any_same p q xs h)

pub ids_by_their_chunks : IdsByTheirChunks
ids_by_their_chunks g table c ids sky at up there =
    id_by_id (λ o. in_chunk g c o.at) table ids
    ∙ any_same (λ id. list_any (λ o. int_eq id o.id && in_chunk g c o.at) table) (λ id. is_there_among (c ∷ []) (chunk_of_id g table id)) ids
    (λ id. id_held g table c id sky there at up)
