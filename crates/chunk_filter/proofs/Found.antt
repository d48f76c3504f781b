-- What a query finds in a chunk, by the places of the chunk's block.
use Rattle.std.proofs.Common.{◌≡◌, ◌∙◌, refl, sym, ap, subst, ◌<ℤ◌, ℕ, ◌<◌, ◌≤◌, arith, Bool, true, false, ◌&&◌, cond, List, [], ◌∷◌, ◌++◌, length, get_or, filter, map, option_to_list, slice_get}
use Rattle.std.specs.Prelude.{All}
use Rattle.std.specs.List.{range_with_len}
use Rattle.std.proofs.lemmas.List.Elements.{All-tail, filter_agree}
use Rattle.std.proofs.lemmas.List.Kept.{AllPairs-filter}
use Rattle.std.proofs.lemmas.List.FromFn.{length-range_with_len}
use Rattle.std.proofs.lemmas.Option.{slice_get-get_or}
use Rattle.table_rules.specs.Objects.{IdsAscend, Obj}
use Rattle.table_rules.specs.declared.limits.TheConstants.{ROWS_MOST}
use Rattle.sky_rules.specs.Bounds.{in_chunk}
use Rattle.sky_rules.specs.Partition.{Partition}
use Rattle.sky_row.specs.Columns.{no_row, objects_at}
use Rattle.chunk_rules.specs.Places.{passes, places_by, rows_at}
use Rattle.chunk_rules.proofs.RowsTaken.{rows_at_places}
use Rattle.chunk_store.proofs.Ranges.{places_there}
use Rattle.sql_bound.specs.declared.cond.BoundCond.{BoundCond}
use Rattle.value_rules.specs.Truth.{meets}
use Rattle.value_rules.specs.Values.{Pick, row}
use Rattle.chunk_filter.specs.Selection.{selection}

-- objects at places of a list are the rows there
pub objects_taken : (objects : List Obj) (places : List ℕ) → All (λ i. i < length objects) places → objects_at objects places ≡ rows_at objects places
objects_taken objects [] there = refl
objects_taken objects (i ∷ places) there =
    ap (λ l. get_or objects i no_row ∷ l) (objects_taken objects places (All-tail (λ i. i < length objects) i places there))
    ∙ ap (λ o. option_to_list o ++ rows_at objects places) (sym (slice_get-get_or objects i no_row (there 0 0 (omega arith))))

-- those at the places of the rows that pass a test are the rows that pass it
pub test_taken : (test : Obj → Bool) (objects : List Obj) → objects_at objects (places_by test objects) ≡ filter test objects
test_taken test objects = objects_taken objects (places_by test objects) (places_there test objects) ∙ rows_at_places test objects

both_step : {X : Type 0} (q : X → Bool) (x : X) (kept rest : List X) (b : Bool) → filter q kept ≡ rest → filter q (cond b (x ∷ kept) kept) ≡ cond (b && q x) (x ∷ rest) rest
both_step q x kept rest true e = ap (λ l. cond (q x) (x ∷ l) l) e
both_step q x kept rest false e = e

filter_both : {X : Type 0} (p q : X → Bool) (xs : List X) → filter q (filter p xs) ≡ filter (λ x. p x && q x) xs
filter_both p q [] = refl
filter_both p q (x ∷ xs) = both_step q x (filter p xs) (filter (λ y. p y && q y) xs) (p x) (filter_both p q xs)

map_step : {X Y : Type 0} (f : X → Y) (x : X) (us : List X) (vs : List Y) (b : Bool) → vs ≡ map f us → cond b (f x ∷ vs) vs ≡ map f (cond b (x ∷ us) us)
map_step f x us vs true e = ap (λ l. f x ∷ l) e
map_step f x us vs false e = e

filter_map : {X Y : Type 0} (f : X → Y) (p : Y → Bool) (xs : List X) → filter p (map f xs) ≡ map f (filter (λ x. p (f x)) xs)
filter_map f p [] = refl
filter_map f p (x ∷ xs) = map_step f x (filter (λ x. p (f x)) xs) (filter p (map f xs)) (p (f x)) (filter_map f p xs)

and_turned : (a b : Bool) → (a && b) ≡ (b && a)
and_turned true true = refl
and_turned true false = refl
and_turned false true = refl
and_turned false false = refl

-- what meets the conditions and lies in the chunk are the rows at the places of its block that meet them
pub found_rows : (g : Partition) (table : List Obj) (conds : List BoundCond) (c : ℕ) (block : List Obj) → block ≡ filter (λ o. in_chunk g c o.at) table
    → filter (λ (p : Pick). meets conds p && in_chunk g c p.first.at) (map row table) ≡ map row (objects_at block (selection conds block))
found_rows g table conds c block is =
    filter_map row (λ (p : Pick). meets conds p && in_chunk g c p.first.at) table
    ∙ ap (map row)
    (filter_agree (λ o. meets conds (row o) && in_chunk g c o.at) (λ o. in_chunk g c o.at && meets conds (row o)) (λ o. and_turned (meets conds (row o)) (in_chunk g c o.at)) table
    ∙ (sym (filter_both (λ o. in_chunk g c o.at) (λ o. meets conds (row o)) table)
    ∙ (ap (filter (λ o. meets conds (row o))) (sym is)
    ∙ sym (test_taken (λ o. meets conds (row o)) block))))

-- ---- how many there are

short_step : {X : Type 0} (x : X) (us xs : List X) (b : Bool) → length us ≤ length xs → length (cond b (x ∷ us) us) ≤ length (x ∷ xs)
short_step x us xs true le = omega (arith, le)
short_step x us xs false le = omega (arith, le)

filter_short : {X : Type 0} (p : X → Bool) (xs : List X) → length (filter p xs) ≤ length xs
filter_short p [] = omega arith
filter_short p (x ∷ xs) = short_step x (filter p xs) xs (p x) (filter_short p xs)

-- a block has no more rows than a table may have
pub block_few : (g : Partition) (table : List Obj) (c : ℕ) (block : List Obj) → block ≡ filter (λ o. in_chunk g c o.at) table → length table ≤ ROWS_MOST
    → length block ≤ 4194304
block_few g table c block is few = omega (arith, ap length is, filter_short (λ o. in_chunk g c o.at) table, few)

-- and its ids ascend as those of the table do
pub block_ascends : (g : Partition) (table : List Obj) (c : ℕ) (block : List Obj) → block ≡ filter (λ o. in_chunk g c o.at) table → IdsAscend table → IdsAscend block
block_ascends g table c block is up = subst IdsAscend (sym is) (AllPairs-filter (λ (a b : Obj). a.id <ℤ b.id) (λ o. in_chunk g c o.at) table up)

-- and no more places are left than it has rows
pub places_few : (conds : List BoundCond) (block : List Obj) (places : List ℕ) → places ≡ selection conds block → length places ≤ length block
places_few conds block places is =
    omega (arith, ap length is, filter_short (λ i. passes (λ o. meets conds (row o)) (slice_get block i)) (range_with_len 0 (length block)), length-range_with_len 0 (length block))
