-- The chunk query of a query can be run where the query can.
use Rattle.std.proofs.Common.{◌≡◌, ℕ, zero, suc, ℤ, nat_abs, Bool, true, false, ◌&&◌, List, [], ◌∷◌, ◌++◌, Option, Some, None, option_map, slice_get, refl, ap, ◌∙◌, ⊎_elim}
use Rattle.std.specs.List.{list_all, flat_map}
use Rattle.std.specs.Prelude.{nat_le, option_and_then}
use Rattle.std.proofs.lemmas.Bool.{and_parts, and_from, le-leb}
use Rattle.table_rules.specs.Objects.{column_bound}
use Rattle.sql_bound.specs.declared.expr.BoundCol.{BoundCol}
use Rattle.sql_bound.specs.declared.expr.BoundExpr.{BoundExpr}
use Rattle.sql_bound.specs.declared.query.Bound.{Bound}
use Rattle.sql_bound.specs.declared.query.BoundItem.{BoundItem}
use Rattle.sql_bound.specs.declared.query.BoundItem.TheVariants as item
use Rattle.sql_bound.specs.declared.query.BoundKey.{BoundKey}
use Rattle.sql_bound.specs.declared.query.BoundKey.TheVariants.{Item, Column as ByColumn}
use Rattle.sql_bound.specs.declared.query.BoundOrder.{BoundOrder}
use Rattle.sql_bound.specs.declared.query.Shape.{Shape}
use Rattle.sql_bound.specs.declared.query.Shape.TheVariants.{Rows, Pairs, Groups}
use Rattle.value_rules.specs.Sound.{is_plain_col, is_sound_at, is_sound_expr, is_sound_item, is_sound_key, is_sound_limit, is_sound_order}
use Rattle.value_rules.specs.Terms.{Column, term_of}
use Rattle.value_rules.specs.Widths.{most}
use Rattle.value_rules.proofs.Trees.{trees}
use Rattle.answer_rules.specs.declared.rewritten.ChunkItem.{ChunkItem}
use Rattle.answer_rules.specs.declared.rewritten.ChunkOrder.{ChunkOrder}
use Rattle.answer_rules.specs.PieceLaws.{IsPushed}
use Rattle.answer_rules.specs.ChunkQueries.{chunk_items_of, chunk_order_of, expr_of, key_expr, of_col, row_order_of}
use Rattle.answer_rules.proofs.KeysInRange.{bound_below_most}
use Rattle.answer_rules.specs.SoundChunks.{is_sound_part, is_sound_chunk_order, ChunkIsSound}

wrong : {A : Type 0} → false ≡ true → A
wrong h = absurd (cc)

-- ---- the items

one : (b : Bool) → b ≡ true → (b && true) ≡ true
one b h = and_from b true h refl

two : (b : Bool) → b ≡ true → (b && (b && true)) ≡ true
two b h = and_from b (b && true) h (one b h)

-- what an item gives to the chunk query is sound where the item is
parts_sound : (columns : ℕ) (shape : Shape) (i : BoundItem) → is_sound_item columns shape i ≡ true → list_all (is_sound_part columns shape) (chunk_items_of shape i) ≡ true
parts_sound columns Rows (item.Plain e) h = one _ h
parts_sound columns Rows item.Count h = refl
parts_sound columns Rows (item.CountOf e) h = refl
parts_sound columns Rows (item.Sum e) h = refl
parts_sound columns Rows (item.Min e) h = refl
parts_sound columns Rows (item.Max e) h = refl
parts_sound columns Rows (item.Avg e) h = refl
parts_sound columns (Pairs limit) (item.Plain e) h = one _ h
parts_sound columns (Pairs limit) item.Count h = refl
parts_sound columns (Pairs limit) (item.CountOf e) h = refl
parts_sound columns (Pairs limit) (item.Sum e) h = refl
parts_sound columns (Pairs limit) (item.Min e) h = refl
parts_sound columns (Pairs limit) (item.Max e) h = refl
parts_sound columns (Pairs limit) (item.Avg e) h = refl
parts_sound columns (Groups keys) (item.Plain e) h = refl
parts_sound columns (Groups keys) item.Count h = refl
parts_sound columns (Groups keys) (item.CountOf e) h = one _ h
parts_sound columns (Groups keys) (item.Sum e) h = one _ h
parts_sound columns (Groups keys) (item.Min e) h = one _ h
parts_sound columns (Groups keys) (item.Max e) h = one _ h
parts_sound columns (Groups keys) (item.Avg e) h = two _ h

all_behind : (p : ChunkItem → Bool) (xs ys : List ChunkItem) → list_all p xs ≡ true → list_all p ys ≡ true → list_all p (xs ++ ys) ≡ true
all_behind p [] ys h k = k
all_behind p (x ∷ xs) ys h k =
    let both = and_parts (p x) (list_all p xs) h in
    and_from (p x) (list_all p (xs ++ ys)) both.0 (all_behind p xs ys both.1 k)

items_sound : (columns : ℕ) (shape : Shape) (items : List BoundItem) → list_all (is_sound_item columns shape) items ≡ true → list_all (is_sound_part columns shape) (flat_map (chunk_items_of shape) items) ≡ true
items_sound columns shape [] h = refl
items_sound columns shape (i ∷ items) h =
    let both = and_parts (is_sound_item columns shape i) (list_all (is_sound_item columns shape) items) h in
    all_behind (is_sound_part columns shape) (chunk_items_of shape i) (flat_map (chunk_items_of shape) items) (parts_sound columns shape i both.0) (items_sound columns shape items both.1)

-- ---- the order

abbrev ordered : Bool → Option BoundExpr → Option ChunkOrder
ordered down e = option_map (λ e. record { key = e; down = down }) e

-- the item at a place as a key
item_sound : (columns : ℕ) (shape : Shape) (down : Bool) (i : BoundItem) → is_sound_item columns shape i ≡ true → is_sound_chunk_order columns shape (ordered down (expr_of i)) ≡ true
item_sound columns shape down (item.Plain e) h = h
item_sound columns shape down item.Count h = refl
item_sound columns shape down (item.CountOf e) h = refl
item_sound columns shape down (item.Sum e) h = refl
item_sound columns shape down (item.Min e) h = refl
item_sound columns shape down (item.Max e) h = refl
item_sound columns shape down (item.Avg e) h = refl

place_sound : (columns : ℕ) (shape : Shape) (down : Bool) (items : List BoundItem) (place : ℕ) → list_all (is_sound_item columns shape) items ≡ true → is_sound_chunk_order columns shape (ordered down (option_and_then expr_of (slice_get items place))) ≡ true
place_sound columns shape down [] place h = refl
place_sound columns shape down (i ∷ items) zero h = item_sound columns shape down i (and_parts (is_sound_item columns shape i) (list_all (is_sound_item columns shape) items) h).0
place_sound columns shape down (i ∷ items) (suc n) h = place_sound columns shape down items n (and_parts (is_sound_item columns shape i) (list_all (is_sound_item columns shape) items) h).1

-- a column as a key
col_sound : (allowed : BoundCol → Bool) (c : BoundCol) → allowed c ≡ true → is_sound_expr allowed (of_col c) ≡ true
col_sound allowed c h =
    let term : term_of (of_col c) ≡ Column c = simp trees refl in
    ap (is_sound_at allowed) term ∙ and_from (allowed c && true) (nat_le (nat_abs (column_bound c.col)) most) (one (allowed c) h) (le-leb (nat_abs (column_bound c.col)) most (bound_below_most c.col))

key_sound : (columns : ℕ) (q : Bound) (down : Bool) → list_all (is_sound_item columns q.shape) q.items ≡ true → (key : BoundKey) → is_sound_key columns q key ≡ true → is_sound_chunk_order columns q.shape (ordered down (key_expr q.items key)) ≡ true
key_sound columns q down h (Item place) s = place_sound columns q.shape down q.items place h
key_sound columns q down h (ByColumn c) s = col_sound (is_plain_col columns q.shape) c s

line_order_sound : (columns : ℕ) (q : Bound) → list_all (is_sound_item columns q.shape) q.items ≡ true → (order : Option BoundOrder) → is_sound_order columns q order ≡ true → is_sound_chunk_order columns q.shape (option_and_then (row_order_of q.items) order) ≡ true
line_order_sound columns q h None s = refl
line_order_sound columns q h (Some order) s = key_sound columns q order.down h order.key s

order_by : (shape : Shape) (columns : ℕ) (q : Bound) → q.shape ≡ shape → list_all (is_sound_item columns q.shape) q.items ≡ true → is_sound_order columns q q.order ≡ true → is_sound_chunk_order columns q.shape (chunk_order_of shape q.items q.order) ≡ true
order_by Rows columns q e h s = line_order_sound columns q h q.order s
order_by (Pairs limit) columns q e h s = line_order_sound columns q h q.order s
order_by (Groups keys) columns q e h s = refl

-- ---- the limit

limit_sound : (q : Bound) (limit : Option ℤ) → is_sound_limit q.limit ≡ true → IsPushed q limit → is_sound_limit limit ≡ true
limit_sound q limit s p = ⊎_elim (λ none. ap is_sound_limit none) (λ own. ap is_sound_limit own ∙ s) p

pub chunk_is_sound : ChunkIsSound
chunk_is_sound columns q limit sound pushed = record {
  shape = sound.shape;
  items = items_sound columns q.shape q.items sound.items;
  conds = sound.conds;
  order = order_by q.shape columns q refl sound.items sound.order;
  limit = limit_sound q limit sound.limit pushed;
}
