-- The order in which a chunk query of rows or pairs is limited is that of the merge.
use Rattle.std.proofs.Common.{◌≡◌, ℤ, refl, sym, ap, ◌∙◌, subst, ℕ, zero, suc, ◌+◌, ◌<◌, arith, Bool, true, false, ◌&&◌, IsTrue, nat_lt}
use Rattle.std.proofs.Common.{List, [], ◌∷◌, ◌++◌, length, Option, None, Some, option_map, codes, slice_get}
use Rattle.std.proofs.lemmas.Grind.{common_steps}
use Rattle.std.specs.List.{flat_map, list_all}
use Rattle.std.specs.Option.{is_some, option_and_then}
use Rattle.sql_bound.specs.declared.expr.BoundExpr.{BoundExpr}
use Rattle.sql_bound.specs.declared.query.Bound.{Bound}
use Rattle.sql_bound.specs.declared.query.BoundItem.{BoundItem}
use Rattle.sql_bound.specs.declared.query.BoundItem.TheVariants as item
use Rattle.sql_bound.specs.declared.query.BoundKey.{BoundKey}
use Rattle.sql_bound.specs.declared.query.BoundKey.TheVariants.{Item, Column as ByColumn}
use Rattle.sql_bound.specs.declared.query.BoundOrder.{BoundOrder}
use Rattle.sql_bound.specs.declared.query.Shape.{Shape}
use Rattle.sql_bound.specs.declared.query.Shape.TheVariants.{Rows, Pairs, Groups}
use Rattle.sql_rules.specs.PrintedExprs.{Bytes, text_if}
use Rattle.value_rules.specs.Sound.{IsSound, is_sound_item, is_sound_order}
use Rattle.answer_rules.specs.ChunkQueries.{chunk_items_of, chunk_order_of, chunk_query_of, expr_of, key_expr}
use Rattle.answer_rules.specs.Rewriting.{merge_key_of}
use Rattle.answer_rules.specs.Rewriting.{merge_plan_of, merged_from}
use Rattle.answer_rules.specs.ChunkQueries.{row_order_of, row_parts}
use Rattle.answer_rules.specs.declared.rewritten.ChunkOrder.{ChunkOrder}
use Rattle.answer_rules.specs.declared.rewritten.MergeItem.{MergeItem}
use Rattle.answer_rules.specs.declared.rewritten.MergeKey.TheVariants.{ChunkKey}
use Rattle.answer_rules.specs.declared.rewritten.MergeOrder.{MergeOrder}
use Rattle.answer_rules.specs.declared.rewritten.MergePlan.{MergePlan}
use Rattle.transcript_rules.specs.ColumnNames.{column_name, id_count, id_names}
use Rattle.transcript_rules.specs.ChunkLines.{chunk_key_names, chunk_order_names}
use Rattle.transcript_rules.specs.MergeLines.{merge_order_texts, order_key_texts, tie_names}
use Rattle.transcript_rules.specs.BlockLaws.{LimitedInTheMergesOrder}

-- the item is an expression
abbrev is_plain : BoundItem → Bool
is_plain i = is_some (expr_of i)

-- the items of rows, and of pairs, are expressions
plain_row : (columns : ℕ) (i : BoundItem) → is_sound_item columns Rows i ≡ true → is_plain i ≡ true
plain_row columns (item.Plain e) h = refl
plain_row columns item.Count h = absurd (cc h)
plain_row columns (item.CountOf e) h = absurd (cc h)
plain_row columns (item.Sum e) h = absurd (cc h)
plain_row columns (item.Min e) h = absurd (cc h)
plain_row columns (item.Max e) h = absurd (cc h)
plain_row columns (item.Avg e) h = absurd (cc h)

plain_pair : (columns : ℕ) (limit : ℤ) (i : BoundItem) → is_sound_item columns (Pairs limit) i ≡ true → is_plain i ≡ true
plain_pair columns limit (item.Plain e) h = refl
plain_pair columns limit item.Count h = absurd (cc h)
plain_pair columns limit (item.CountOf e) h = absurd (cc h)
plain_pair columns limit (item.Sum e) h = absurd (cc h)
plain_pair columns limit (item.Min e) h = absurd (cc h)
plain_pair columns limit (item.Max e) h = absurd (cc h)
plain_pair columns limit (item.Avg e) h = absurd (cc h)

both : (a b : Bool) → (a && b) ≡ true → (a ≡ true) × (b ≡ true)
both true b h = (refl, h)
both false b h = absurd (cc h)

all_plain : (sound : BoundItem → Bool) → ((i : BoundItem) → sound i ≡ true → is_plain i ≡ true) → (items : List BoundItem)
    → list_all sound items ≡ true → list_all is_plain items ≡ true
all_plain sound tells [] h = refl
all_plain sound tells (i ∷ items) h =
    let parts = both (sound i) (list_all sound items) h in
    ap (λ b. b && list_all is_plain items) (tells i parts.0) ∙ all_plain sound tells items parts.1

-- expressions are as many columns
one_each : (items : List BoundItem) → list_all is_plain items ≡ true → length (flat_map row_parts items) ≡ length items
one_each [] h = refl
one_each (item.Plain e ∷ items) h = ap suc (one_each items h)
one_each (item.Count ∷ items) h = absurd (cc h)
one_each (item.CountOf e ∷ items) h = absurd (cc h)
one_each (item.Sum e ∷ items) h = absurd (cc h)
one_each (item.Min e ∷ items) h = absurd (cc h)
one_each (item.Max e ∷ items) h = absurd (cc h)
one_each (item.Avg e ∷ items) h = absurd (cc h)

-- and each item is merged
as_many_merged : (shape : Shape) (n : ℕ) (items : List BoundItem) → length (merged_from shape n items) ≡ length items
as_many_merged shape n [] = refl
as_many_merged shape n (i ∷ items) = ap suc (as_many_merged shape (n + length (chunk_items_of shape i)) items)

-- the item at a place is an expression
expr_at : (items : List BoundItem) (place : ℕ) → list_all is_plain items ≡ true → place < length items
    → is_some (option_and_then expr_of (slice_get items place)) ≡ true
expr_at [] place h below = absurd (omega (arith, below))
expr_at (i ∷ items) zero h below = (both (is_plain i) (list_all is_plain items) h).0
expr_at (i ∷ items) (suc place) h below =
    expr_at items place (both (is_plain i) (list_all is_plain items) h).1 (omega (arith, below))

is_below : (m n : ℕ) → nat_lt m n ≡ true → m < n
is_below m n h = grind (arith, common_steps)

-- a sound key is an expression
key_there : (columns : ℕ) (q : Bound) (o : BoundOrder) → list_all is_plain q.items ≡ true → is_sound_order columns q (Some o) ≡ true
    → is_some (key_expr q.items o.key) ≡ true
key_there columns q o plain sound = by_key o.key sound
  where
    by_key : (key : BoundKey) → is_sound_order columns q (Some (record { key = key; down = o.down })) ≡ true
        → is_some (key_expr q.items key) ≡ true
    by_key (Item place) h = expr_at q.items place plain (is_below place (length q.items) h)
    by_key (ByColumn c) h = refl

-- a key that is an expression is named by its column in the chunk query as in the merge
key_named : (place : ℕ) (m : MergePlan) (down : Bool) (e : Option BoundExpr) → is_some e ≡ true → place ≡ length m.items + id_count m.shape
    → chunk_key_names place (option_map (λ e. record { key = e; down = down }) e)
    ≡ order_key_texts m (Some (record { key = ChunkKey; down = down }))
key_named place m down None there same = absurd (cc there)
key_named place m down (Some e) there same = ap (λ n. (column_name n ++ text_if down (codes " DESC")) ∷ []) same

-- the order in the chunk query and in the merge, of items that are so many columns
ordered : (columns : ℕ) (q : Bound) (shape : Shape) (order : Option BoundOrder) (m : MergePlan) (n : ℕ) → list_all is_plain q.items ≡ true
    → is_sound_order columns q order ≡ true → ((key : BoundKey) → merge_key_of shape key ≡ ChunkKey) → m.shape ≡ shape → n ≡ length m.items
    → chunk_key_names (n + id_count shape) (option_and_then (row_order_of q.items) order) ++ id_names n shape
    ≡ order_key_texts m (option_map (λ o. record { key = merge_key_of shape o.key; down = o.down }) order) ++ id_names (length m.items) shape
ordered columns q shape None m n plain sound by_chunk same size = ap (λ k. id_names k shape) size
ordered columns q shape (Some o) m n plain sound by_chunk same size =
    let place : n + id_count shape ≡ length m.items + id_count m.shape = ap (λ k. k + id_count shape) size ∙ ap (λ s. length m.items + id_count s) (sym same) in
    let named = key_named (n + id_count shape) m o.down (key_expr q.items o.key) (key_there columns q o plain sound) place in
    let key = named ∙ ap (λ k. order_key_texts m (Some (record { key = k; down = o.down }))) (sym (by_chunk o.key)) in
    ap (λ names. names ++ id_names n shape) key
    ∙ ap (λ k. order_key_texts m (Some (record { key = merge_key_of shape o.key; down = o.down })) ++ id_names k shape) size

-- the same for each shape that has ids
by_shape : (columns : ℕ) (q : Bound) (shape : Shape) (m : MergePlan) → list_all (is_sound_item columns shape) q.items ≡ true
    → is_sound_order columns q q.order ≡ true → 0 < id_count shape → m.shape ≡ shape → length m.items ≡ length q.items
    → chunk_key_names (length (flat_map (chunk_items_of shape) q.items) + id_count shape) (chunk_order_of shape q.items q.order)
    ++ id_names (length (flat_map (chunk_items_of shape) q.items)) shape
    ≡ order_key_texts m (option_map (λ o. record { key = merge_key_of shape o.key; down = o.down }) q.order) ++ tie_names m shape
by_shape columns q Rows m items order ids same size =
    let plain = all_plain (is_sound_item columns Rows) (plain_row columns) q.items items in
    ordered columns q Rows q.order m (length (flat_map row_parts q.items)) plain order (λ key. refl) same (one_each q.items plain ∙ sym size)
by_shape columns q (Pairs limit) m items order ids same size =
    let plain = all_plain (is_sound_item columns (Pairs limit)) (plain_pair columns limit) q.items items in
    ordered columns q (Pairs limit) q.order m (length (flat_map row_parts q.items)) plain order (λ key. refl) same (one_each q.items plain ∙ sym size)
by_shape columns q (Groups keys) m items order ids same size = absurd (omega (arith, ids))

pub limited_in_the_merges_order : LimitedInTheMergesOrder
limited_in_the_merges_order columns b sound ids =
    by_shape columns b b.shape (merge_plan_of b) sound.items sound.order ids refl (as_many_merged b.shape 0 b.items)
