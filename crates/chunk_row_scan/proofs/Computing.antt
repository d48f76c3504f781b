-- What a chunk query computes of rows, a column at a time, is what it computes of each of them.
use Rattle.std.proofs.Common.{◌≡◌, ◌∙◌, refl, sym, ap, subst, ℕ, ◌+◌, ◌<◌, arith, ℤ, pos, Bool, true, List, [], ◌∷◌, length, get_or, map, Option, Some, None}
use Rattle.std.specs.Prelude.{All}
use Rattle.std.specs.List.{AllByRecursion as Each, list_all}
use Rattle.std.proofs.lemmas.Bool.{and_parts}
use Rattle.std.proofs.lemmas.List.{get_or-map, length-map}
use Rattle.std.proofs.lemmas.List.Elements.{All-from_recursion, recursion_from_All}
use Rattle.table_rules.specs.Objects.{Obj, IsRow}
use Rattle.column_lists.specs.Columns.{cells_in}
use Rattle.sky_row.specs.Columns.{no_row, objects_at}
use Rattle.sql_bound.specs.declared.query.Shape.TheVariants.{Rows}
use Rattle.value_rules.specs.Values.{row, value_of}
use Rattle.answer_rules.specs.declared.rewritten.ChunkItem.{ChunkItem}
use Rattle.answer_rules.specs.declared.rewritten.ChunkItem.TheVariants.{Plain, Count, CountOf, Sum, Min, Max}
use Rattle.answer_rules.specs.declared.rewritten.ChunkOrder.{ChunkOrder}
use Rattle.answer_rules.specs.declared.rewritten.ChunkQuery.{ChunkQuery}
use Rattle.answer_rules.specs.Pieces.{chunk_down, chunk_key, chunk_lines, chunk_value}
use Rattle.answer_rules.specs.Rows.{out_row}
use Rattle.answer_rules.specs.SoundChunks.{is_sound_chunk_order, is_sound_part}
use Rattle.column_vectors.proofs.Reading.{rows_there}
use Rattle.partial_rows.specs.declared.rank.Rank.{Rank}
use Rattle.partial_rows.specs.Multisets.{out_row as ranked}
use Rattle.chunk_row_scan.specs.Computed.{AreReady, item_on, key_in, keys_on, rank_by}
use Rattle.chunk_filter.specs.Values.{IsReady}
use Rattle.chunk_filter.proofs.Values.{ready_values}

-- ---- no value is too large

-- those that rows are ordered by are there
keys_sized : (columns i : ℕ) (objects : List Obj) (order : Option ChunkOrder) → is_sound_chunk_order columns Rows order ≡ true → All IsRow objects → i < length objects
    → IsReady (i + 1) (keys_on objects order)
keys_sized columns i objects None sound rows low = tt
keys_sized columns i objects (Some order) sound rows low =
    ready_values columns (i + 1) order.key objects sound (recursion_from_All IsRow objects rows) (omega (arith, low))

-- those of an item are there
item_sized : (columns i : ℕ) (objects : List Obj) (item : ChunkItem) → is_sound_part columns Rows item ≡ true → Each IsRow objects → i < length objects
    → IsReady (i + 1) (Some (item_on objects item))
item_sized columns i objects (Plain e) sound rows low = ready_values columns (i + 1) e objects sound rows (omega (arith, low))
item_sized columns i objects Count sound rows low = absurd (cc sound)
item_sized columns i objects (CountOf e) sound rows low = absurd (cc sound)
item_sized columns i objects (Sum e) sound rows low = absurd (cc sound)
item_sized columns i objects (Min e) sound rows low = absurd (cc sound)
item_sized columns i objects (Max e) sound rows low = absurd (cc sound)

items_sized : (columns i : ℕ) (objects : List Obj) (items : List ChunkItem) → list_all (is_sound_part columns Rows) items ≡ true → Each IsRow objects → i < length objects
    → Each (λ column. IsReady (i + 1) (Some column)) (map (item_on objects) items)
items_sized columns i objects [] sound rows low = tt
items_sized columns i objects (item ∷ items) sound rows low =
    let both = and_parts (is_sound_part columns Rows item) (list_all (is_sound_part columns Rows) items) sound in
    (item_sized columns i objects item both.0 rows low, items_sized columns i objects items both.1 rows low)

long : (objects : List Obj) (places : List ℕ) → length (objects_at objects places) ≡ length places
long objects places = length-map places (λ place. get_or objects place no_row)

-- the same of the rows at places
pub keys_ready : (columns i : ℕ) (objects : List Obj) (places : List ℕ) (order : Option ChunkOrder) (keys : Option (List (Option ℤ))) → is_sound_chunk_order columns Rows order ≡ true
    → All IsRow objects → All (λ place. place < length objects) places → i < length places → keys ≡ keys_on (objects_at objects places) order → IsReady (i + 1) keys
keys_ready columns i objects places order keys sound rows there low is =
    subst (IsReady (i + 1)) (sym is)
    (keys_sized columns i (objects_at objects places) order sound (rows_there objects places rows there) (omega (arith, low, long objects places)))

pub columns_ready : (columns i : ℕ) (objects : List Obj) (places : List ℕ) (items : List ChunkItem) (found : List (List (Option ℤ))) → list_all (is_sound_part columns Rows) items ≡ true
    → All IsRow objects → All (λ place. place < length objects) places → i < length places → found ≡ map (item_on (objects_at objects places)) items → AreReady i found
columns_ready columns i objects places items found sound rows there low is =
    subst (AreReady i) (sym is)
    (All-from_recursion (λ column. IsReady (i + 1) (Some column)) (map (item_on (objects_at objects places)) items)
    (items_sized columns i (objects_at objects places) items sound (recursion_from_All IsRow (objects_at objects places) (rows_there objects places rows there)) (omega (arith, low, long objects places))))

-- ---- the values at a place are those of the row there

value_there : (f : Obj → Option ℤ) (objects : List Obj) (places : List ℕ) (i : ℕ) → i < length places
    → get_or (map f (objects_at objects places)) i None ≡ f (get_or objects (get_or places i 0) no_row)
value_there f objects places i low =
    get_or-map f (objects_at objects places) i no_row None (omega (arith, low, long objects places))
    ∙ ap f (get_or-map (λ place. get_or objects place no_row) places i 0 no_row low)

-- the order key at an index
pub key_there : (order : Option ChunkOrder) (objects : List Obj) (places : List ℕ) (i : ℕ) → i < length places
    → key_in (keys_on (objects_at objects places) order) i ≡ chunk_key order (row (get_or objects (get_or places i 0) no_row))
key_there None objects places i low = refl
key_there (Some order) objects places i low = value_there (λ o. value_of order.key (row o)) objects places i low

cells_there : (items : List ChunkItem) (objects : List Obj) (places : List ℕ) (i : ℕ) → i < length places
    → cells_in (map (item_on (objects_at objects places)) items) i ≡ map (chunk_value (row (get_or objects (get_or places i 0) no_row))) items
cells_there [] objects places i low = refl
cells_there (item ∷ items) objects places i low =
    ap (λ v. v ∷ cells_in (map (item_on (objects_at objects places)) items) i) (value_there (λ o. chunk_value (row o) item) objects places i low)
    ∙ ap (λ l. chunk_value (row (get_or objects (get_or places i 0) no_row)) item ∷ l) (cells_there items objects places i low)

-- the values of columns of the items
pub columns_there : (items : List ChunkItem) (objects : List Obj) (places : List ℕ) (i : ℕ) (found : List (List (Option ℤ))) → i < length places
    → found ≡ map (item_on (objects_at objects places)) items → cells_in found i ≡ map (chunk_value (row (get_or objects (get_or places i 0) no_row))) items
columns_there items objects places i found low is = ap (λ l. cells_in l i) is ∙ cells_there items objects places i low

-- the rank by the key and the id at a place, with the values of the items, is the row as the chunk query has it
pub line_there : (cq : ChunkQuery) (objects : List Obj) (places : List ℕ) (i : ℕ) (down : Bool) (keys : Option (List (Option ℤ))) (ids : List ℤ) (rank : Rank) (cells : List (Option ℤ))
    → i < length places → All (λ place. place < length objects) places → down ≡ chunk_down cq.order
    → keys ≡ keys_on (objects_at objects places) cq.order → ids ≡ map (λ o. o.id) objects → rank ≡ rank_by down (key_in keys i) (get_or ids (get_or places i 0) (pos 0))
    → cells ≡ map (chunk_value (row (get_or objects (get_or places i 0) no_row))) cq.items
    → ranked rank cells ≡ out_row (chunk_lines cq) (row (get_or objects (get_or places i 0) no_row))
line_there cq objects places i down keys ids rank cells low there turned known named is are =
    let place : ℕ = get_or places i 0 in
    let o : Obj = get_or objects place no_row in
    let key : key_in keys i ≡ chunk_key cq.order (row o) = ap (λ ks. key_in ks i) known ∙ key_there cq.order objects places i low in
    let id : get_or ids place (pos 0) ≡ o.id =
    ap (λ l. get_or l place (pos 0)) named ∙ get_or-map (λ (o : Obj). o.id) objects place no_row (pos 0) (there i 0 low) in
    ap (λ r. ranked r cells)
    (is ∙ (ap (λ d. rank_by d (key_in keys i) (get_or ids place (pos 0))) turned
    ∙ (ap (λ k. rank_by (chunk_down cq.order) k (get_or ids place (pos 0))) key ∙ ap (rank_by (chunk_down cq.order) (chunk_key cq.order (row o))) id)))
    ∙ ap (ranked (rank_by (chunk_down cq.order) (chunk_key cq.order (row o)) o.id)) are
