-- The texts of a chunk query's columns: as many as it has columns.
use Rattle.std.proofs.Common.{◌≡◌, ℤ, pos, refl, sym, ap, ◌∙◌, subst, ℕ, zero, suc, ◌+◌, ◌<◌, arith, Bool, true, false}
use Rattle.std.proofs.Common.{not, ◌||◌, cond}
use Rattle.std.proofs.Common.{List, [], ◌∷◌, ◌++◌, length, map, Option, None, Some, option_map, Ok, slice_get}
use Rattle.std.proofs.lemmas.List.{length-append, length-map}
use Rattle.std.proofs.lemmas.List.Quantifiers.{position-Some}
use Rattle.std.proofs.lemmas.Grind.{flat_map-append}
use Rattle.std.specs.List.{flat_map, list_any, position}
use Rattle.std.specs.Option.{is_some, option_and_then, option_or}
use Rattle.sql_bound.specs.declared.query.Bound.{Bound}
use Rattle.sql_bound.specs.declared.expr.BoundExpr.{BoundExpr}
use Rattle.sql_bound.specs.declared.expr.BoundCol.{BoundCol}
use Rattle.sql_bound.specs.declared.query.Shape.{Shape}
use Rattle.sql_bound.specs.declared.query.Shape.TheVariants.{Rows, Pairs, Groups}
use Rattle.table_rules.specs.Names.{column_names}
use Rattle.sql_tree.specs.declared.name.Col.{Col}
use Rattle.sql_tree.specs.declared.query.Item.{Item}
use Rattle.sql_tree.specs.declared.query.ItemKind.{ItemKind}
use Rattle.sql_tree.specs.declared.query.ItemKind.TheVariants as what
use Rattle.sql_tree.specs.declared.query.OrderBy.{OrderBy}
use Rattle.sql_tree.specs.declared.query.Query.{Query}
use Rattle.sql_tree.specs.declared.query.Selection.{Selection}
use Rattle.sql_tree.specs.declared.query.Selection.TheVariants as selection
use Rattle.sql_tree.specs.declared.query.TableRef.{TableRef}
use Rattle.sql_rules.specs.Printed.{print_kind}
use Rattle.sql_rules.specs.PrintedExprs.{Bytes, print_col}
use Rattle.bind_rules.specs.declared.fault.BindFault.{BindFault}
use Rattle.bind_rules.specs.declared.fault.BindFault.TheVariants as fault
use Rattle.bind_rules.specs.Binding.{columns_from, star_items, bound_item, bound_items, bound_order, key_by}
use Rattle.bind_rules.specs.Binding.{bound_query, bound_of, by_fault, chord_limit, first_or}
use Rattle.bind_rules.specs.Bounds.{Scope, bound_col}
use Rattle.bind_rules.specs.Checks.{alias_place, is_named, bind_fault, fault_by}
use Rattle.bind_rules.specs.Columns.{is_join, qualifier}
use Rattle.bind_rules.specs.Forms.{is_join_form, join_form}
use Rattle.bind_rules.specs.Mentions.{items_of}
use Rattle.bind_rules.specs.Tops.{top_tests}
use Rattle.bind_rules.specs.Names.{is_aggregate, is_grouped, has_keys}
use Rattle.answer_rules.specs.declared.rewritten.ChunkItem.{ChunkItem}
use Rattle.answer_rules.specs.declared.rewritten.ChunkItem.TheVariants as part
use Rattle.answer_rules.specs.ChunkQueries.{row_parts, group_parts, chunk_items_of, expr_of, key_expr, row_order_of}
use Rattle.answer_rules.specs.ChunkQueries.{chunk_order_of, of_col, id_col, chunk_query_of}
use Rattle.answer_rules.specs.Rewriting.{order_column, columns_of}
use Rattle.transcript_rules.specs.Tables.{qualified, star_columns}
use Rattle.transcript_rules.specs.ChunkLines.{item_texts, id_texts, order_texts, part_texts, row_texts, group_texts}
use Rattle.transcript_rules.specs.ChunkLines.{chunk_texts}
use Rattle.transcript_rules.specs.BlockLaws.{OneTextEach}
use Rattle.transcript_rules.proofs.Blocks.{split_and}

-- some item is an aggregate
abbrev any_aggregate : List Item → Bool
any_aggregate is = list_any (λ i. is_aggregate i.what) is

-- ---- items

-- a plain item is one column
plain_one : (s : Scope) (k : ItemKind) → is_aggregate k ≡ false → length (row_parts (bound_item s k)) ≡ 1
plain_one s (what.Plain e) h = refl
plain_one s what.Count h = absurd (cc h)
plain_one s (what.CountOf e) h = absurd (cc h)
plain_one s (what.Sum e) h = absurd (cc h)
plain_one s (what.Min e) h = absurd (cc h)
plain_one s (what.Max e) h = absurd (cc h)
plain_one s (what.Avg e) h = absurd (cc h)

-- neither of two holds
neither : (a b : Bool) → (a || b) ≡ false → (a ≡ false) × (b ≡ false)
neither true b h = absurd (cc h)
neither false b h = (refl, h)

one_more : (m n : ℕ) → m ≡ n → 1 + m ≡ suc n
one_more m n h = omega (arith, h)

-- plain items are as many columns
plain_each : (s : Scope) (is : List Item) → any_aggregate is ≡ false
    → length (flat_map row_parts (map (λ i. bound_item s i.what) is)) ≡ length is
plain_each s [] h = refl
plain_each s (i ∷ is) h =
    let parts = neither (is_aggregate i.what) (any_aggregate is) h in
    length-append (row_parts (bound_item s i.what)) (flat_map row_parts (map (λ i. bound_item s i.what) is))
    ∙ ap (λ n. n + length (flat_map row_parts (map (λ i. bound_item s i.what) is))) (plain_one s i.what parts.0)
    ∙ one_more _ _ (plain_each s is parts.1)

-- the columns of a table
columns_each : (second : Bool) (at : ℕ) (ns : List Bytes) → length (flat_map row_parts (columns_from second at ns))
    ≡ length ns
columns_each second at [] = refl
columns_each second at (n ∷ ns) = ap suc (columns_each second (at + 1) ns)

-- both tables' columns
both_each : (names : List Bytes) (a b : Bytes)
    → length (qualified a (column_names names) ++ qualified b (column_names names))
    ≡ length (flat_map row_parts (columns_from false 0 (column_names names)
    ++ columns_from true 0 (column_names names)))
both_each names a b =
    length-append (qualified a (column_names names)) (qualified b (column_names names))
    ∙ ap (λ n. n + length (qualified b (column_names names)))
    (length-map (column_names names) _ ∙ sym (columns_each false 0 (column_names names)))
    ∙ ap (λ n. length (flat_map row_parts (columns_from false 0 (column_names names))) + n)
    (length-map (column_names names) _ ∙ sym (columns_each true 0 (column_names names)))
    ∙ sym (length-append (flat_map row_parts (columns_from false 0 (column_names names)))
    (flat_map row_parts (columns_from true 0 (column_names names))))
    ∙ ap length (sym (flat_map-append row_parts (columns_from false 0 (column_names names))
    (columns_from true 0 (column_names names))))

-- a star's columns
star_each : (names : List Bytes) (first : TableRef) (second : Option TableRef)
    → length (star_columns names first second) ≡ length (flat_map row_parts (star_items names (is_some second)))
star_each names first None =
    sym (columns_each false 0 (column_names names))
    ∙ sym (ap length (flat_map-append row_parts (columns_from false 0 (column_names names)) [])
    ∙ length-append (flat_map row_parts (columns_from false 0 (column_names names))) [] ∙ zero_behind _)
  where
    zero_behind : (n : ℕ) → n + 0 ≡ n
    zero_behind n = omega (arith)
star_each names first (Some second) = both_each names (qualifier first) (qualifier second)

-- the items of rows and pairs
items_each : (names : List Bytes) (q : Query) (s : Scope) (sel : Selection) → s.names ≡ names
    → any_aggregate (items_of sel) ≡ false
    → length (item_texts names q sel) ≡ length (flat_map row_parts (bound_items s q sel))
items_each names q s (selection.Star span) same h =
    star_each names q.first q.second ∙ ap (λ ns. length (flat_map row_parts (star_items ns (is_join q)))) (sym same)
items_each names q s (selection.List l) same h =
    length-map (l.first ∷ l.rest) (λ i. print_kind i.what) ∙ sym (plain_each s (l.first ∷ l.rest) h)

-- an item of a grouping gives as many texts as columns
parts_one : (s : Scope) (k : ItemKind) → length (part_texts k) ≡ length (group_parts (bound_item s k))
parts_one s (what.Plain e) = refl
parts_one s what.Count = refl
parts_one s (what.CountOf e) = refl
parts_one s (what.Sum e) = refl
parts_one s (what.Min e) = refl
parts_one s (what.Max e) = refl
parts_one s (what.Avg e) = refl

-- and so do all items
parts_each : (s : Scope) (is : List Item)
    → length (flat_map (λ i. part_texts i.what) is) ≡ length (flat_map group_parts (map (λ i. bound_item s i.what) is))
parts_each s [] = refl
parts_each s (i ∷ is) =
    length-append (part_texts i.what) (flat_map (λ i. part_texts i.what) is)
    ∙ ap (λ n. n + length (flat_map (λ i. part_texts i.what) is)) (parts_one s i.what)
    ∙ ap (λ n. length (group_parts (bound_item s i.what)) + n) (parts_each s is)
    ∙ sym (length-append (group_parts (bound_item s i.what)) (flat_map group_parts (map (λ i. bound_item s i.what) is)))

-- a table's columns give a grouping nothing
columns_none : (second : Bool) (at : ℕ) (ns : List Bytes) → flat_map group_parts (columns_from second at ns) ≡ []
columns_none second at [] = refl
columns_none second at (n ∷ ns) = columns_none second (at + 1) ns

star_none : (names : List Bytes) (join : Bool) → flat_map group_parts (star_items names join) ≡ []
star_none names join =
    flat_map-append group_parts (columns_from false 0 (column_names names))
    (cond join (columns_from true 0 (column_names names)) [])
    ∙ ap (λ xs. xs ++ flat_map group_parts (cond join (columns_from true 0 (column_names names)) []))
    (columns_none false 0 (column_names names))
    ∙ second_none join
  where
    second_none : (j : Bool) → flat_map group_parts (cond j (columns_from true 0 (column_names names)) []) ≡ []
    second_none true = columns_none true 0 (column_names names)
    second_none false = refl

-- the items of a grouping
group_items_each : (s : Scope) (q : Query) (sel : Selection)
    → length (flat_map (λ i. part_texts i.what) (items_of sel)) ≡ length (flat_map group_parts (bound_items s q sel))
group_items_each s q (selection.Star span) = ap length (sym (star_none s.names (is_join q)))
group_items_each s q (selection.List l) = parts_each s (l.first ∷ l.rest)

-- ---- the order key

-- a plain item has its expression
plain_expr : (s : Scope) (k : ItemKind) → is_aggregate k ≡ false → is_some (expr_of (bound_item s k)) ≡ true
plain_expr s (what.Plain e) h = refl
plain_expr s what.Count h = absurd (cc h)
plain_expr s (what.CountOf e) h = absurd (cc h)
plain_expr s (what.Sum e) h = absurd (cc h)
plain_expr s (what.Min e) h = absurd (cc h)
plain_expr s (what.Max e) h = absurd (cc h)
plain_expr s (what.Avg e) h = absurd (cc h)

-- the expression at a place of plain items
place_expr : (s : Scope) (is : List Item) (n : ℕ) → any_aggregate is ≡ false → n < length is
    → is_some (option_and_then expr_of (slice_get (map (λ i. bound_item s i.what) is) n)) ≡ true
place_expr s [] n h within = absurd (omega (arith, within))
place_expr s (i ∷ is) zero h within = plain_expr s i.what (neither (is_aggregate i.what) (any_aggregate is) h).0
place_expr s (i ∷ is) (suc n) h within =
    place_expr s is n (neither (is_aggregate i.what) (any_aggregate is) h).1 (omega (arith, within))

-- an alias has its item
alias_expr : (s : Scope) (q : Query) (sel : Selection) (c : Col) (n : ℕ) → any_aggregate (items_of sel) ≡ false
    → position (λ i. is_named c.name i.alias) (items_of sel) ≡ Some n
    → is_some (option_and_then expr_of (slice_get (bound_items s q sel) n)) ≡ true
alias_expr s q (selection.Star span) c n h there = absurd (cc there)
alias_expr s q (selection.List l) c n h there =
    place_expr s (l.first ∷ l.rest) n h (position-Some (λ i. is_named c.name i.alias)
    (l.first ∷ l.rest) n l.first there).0

-- the place of an alias is one of an item
alias_is : (q : Query) (c : Col) (n : ℕ) (qualified : Bool)
    → cond qualified None (position (λ i. is_named c.name i.alias) (items_of q.items)) ≡ Some n
    → position (λ i. is_named c.name i.alias) (items_of q.items) ≡ Some n
alias_is q c n true h = absurd (cc h)
alias_is q c n false h = h

-- the key of rows and pairs has its expression
key_there : (s : Scope) (q : Query) (c : Col) (p : Option ℕ) → any_aggregate (items_of q.items) ≡ false
    → alias_place q c ≡ p
    → is_some (key_expr (bound_items s q q.items) (key_by s c p)) ≡ true
key_there s q c None h there = refl
key_there s q c (Some n) h there = alias_expr s q q.items c n h (alias_is q c n (is_some c.table) there)

-- one column of an order whose key has its expression
order_one : (e : Option BoundExpr) (down : Bool) → is_some e ≡ true
    → length (order_column (option_map (λ e. record { key = e; down = down }) e)) ≡ 1
order_one (Some e) down h = refl
order_one None down h = absurd (cc h)

-- as many columns of the order key as texts
orders_each : (s : Scope) (q : Query) (o : Option OrderBy) → any_aggregate (items_of q.items) ≡ false
    → length (order_texts q o) ≡ length (order_column
    (option_and_then (row_order_of (bound_items s q q.items)) (option_map (bound_order s q) o)))
orders_each s q None h = refl
orders_each s q (Some o) h =
    sym (order_one (key_expr (bound_items s q q.items) (key_by s o.key (alias_place q o.key))) o.down
    (key_there s q o.key (alias_place q o.key) h refl))

-- ---- the shapes

-- the columns of a chunk query of this shape
abbrev columns_by : Scope → Query → Shape → ℕ
columns_by s q shape =
    length (columns_of (record {
      shape = shape;
      items = flat_map (chunk_items_of shape) (bound_items s q q.items);
      conds = (bound_query s q).conds;
      order = chunk_order_of shape (bound_items s q q.items) (option_map (bound_order s q) q.order);
      limit = None;
    }) shape)

-- three parts of a list, as many in each
three_parts : {A B : Type 0} (a b c : List A) (x y z : List B) → length a ≡ length x → length b ≡ length y → length c
    ≡ length z
    → length (a ++ (b ++ c)) ≡ length (x ++ (y ++ z))
three_parts a b c x y z h k l =
    length-append a (b ++ c) ∙ ap (λ n. length a + n) (length-append b c)
    ∙ same h k l
    ∙ sym (length-append x (y ++ z) ∙ ap (λ n. length x + n) (length-append y z))
  where
    same : length a ≡ length x → length b ≡ length y → length c ≡ length z → length a + (length b + length c)
        ≡ length x + (length y + length z)
    same h k l = omega (arith, h, k, l)

-- not grouped: no item is an aggregate
no_aggregate : (q : Query) → is_grouped q ≡ false → any_aggregate (items_of q.items) ≡ false
no_aggregate q h = (neither (any_aggregate (items_of q.items)) (has_keys q.group) h).0

rows_each : (names : List Bytes) (q : Query) (s : Scope) → s.names ≡ names → is_grouped q ≡ false → q.second ≡ None
    → length (row_texts names q) ≡ columns_by s q Rows
rows_each names q s same h alone =
    three_parts (item_texts names q q.items) (id_texts q.first q.second) (order_texts q q.order)
    (flat_map row_parts (bound_items s q q.items)) (part.Plain (id_col false) ∷ [])
    (order_column (option_and_then (row_order_of (bound_items s q q.items)) (option_map (bound_order s q) q.order)))
    (items_each names q s q.items same (no_aggregate q h))
    (ap (λ t. length (id_texts q.first t)) alone)
    (orders_each s q q.order (no_aggregate q h))

pairs_each : (names : List Bytes) (q : Query) (s : Scope) (limit : ℤ) (second : TableRef) → s.names ≡ names
    → is_grouped q ≡ false → q.second ≡ Some second
    → length (row_texts names q) ≡ columns_by s q (Pairs limit)
pairs_each names q s limit second same h joined =
    three_parts (item_texts names q q.items) (id_texts q.first q.second) (order_texts q q.order)
    (flat_map row_parts (bound_items s q q.items)) (part.Plain (id_col false) ∷ part.Plain (id_col true) ∷ [])
    (order_column (option_and_then (row_order_of (bound_items s q q.items)) (option_map (bound_order s q) q.order)))
    (items_each names q s q.items same (no_aggregate q h))
    (ap (λ t. length (id_texts q.first t)) joined)
    (orders_each s q q.order (no_aggregate q h))

-- a key as a column
abbrev as_column : BoundCol → ChunkItem
as_column c = part.Plain (of_col c)

groups_each : (q : Query) (s : Scope) → length (group_texts q) ≡ columns_by s q (Groups (map (bound_col s) q.group))
groups_each q s =
    length-append (map print_col q.group) (flat_map (λ i. part_texts i.what) (items_of q.items))
    ∙ ap (λ n. n + length (flat_map (λ i. part_texts i.what) (items_of q.items))) (length-map q.group print_col)
    ∙ ap (λ n. length q.group + n) (group_items_each s q q.items)
    ∙ ap (λ n. n + length (flat_map group_parts (bound_items s q q.items)))
    (sym (length-map (map (bound_col s) q.group) as_column ∙ length-map q.group (bound_col s)))
    ∙ sym (length-append (map as_column (map (bound_col s) q.group)) (flat_map group_parts (bound_items s q q.items)))

-- a join that has its form is not grouped
form_ungrouped : (q : Query) (second : TableRef) → is_join_form q (Some second) ≡ true → is_grouped q ≡ false
form_ungrouped q second is = negated (is_grouped q) (split_and _ _ is).1
  where
    negated : (b : Bool) → not b ≡ true → b ≡ false
    negated true h = absurd (cc h)
    negated false h = refl

-- a query without the fault of a join has its form
has_form : (form : Bool) → ◌≡◌ {A = Option BindFault} (cond form None (Some fault.JoinForm)) None → form ≡ true
has_form true h = refl
has_form false h = absurd (cc h)

join_ungrouped : (q : Query) (second : TableRef) → q.second ≡ Some second → join_form q ≡ None → is_grouped q ≡ false
unfolding join_form
join_ungrouped q second joined none =
    form_ungrouped q second (sym (ap (is_join_form q) joined) ∙ has_form (is_join_form q q.second) none)

-- the texts and the columns, by the shape
shape_each : (names : List Bytes) (q : Query) (s : Scope) (second : Option TableRef) (grouped : Bool) (limit : ℤ)
    → s.names ≡ names → q.second ≡ second → is_grouped q ≡ grouped → join_form q ≡ None
    → let shape = cond (is_some second) (Pairs limit) (cond grouped (Groups (map (bound_col s) q.group)) Rows) in
    length (chunk_texts names q shape) ≡ columns_by s q shape
shape_each names q s (Some second) grouped limit same joined is none =
    pairs_each names q s limit second same (join_ungrouped q second joined none) joined
shape_each names q s None true limit same joined is none = groups_each q s
shape_each names q s None false limit same joined is none = rows_each names q s same is joined

-- one fault or the other: none of both
no_fault : (a b : Option BindFault) → option_or a b ≡ None → (a ≡ None) × (b ≡ None)
no_fault (Some f) b h = absurd (cc h)
no_fault None b h = (refl, h)

-- a query without a fault has the form of its tables
no_join_fault : (names : List Bytes) (q : Query) → bind_fault names q ≡ None → join_form q ≡ None
unfolding fault_by
no_join_fault names q h = (no_fault _ _ (no_fault _ _ (no_fault _ _ h).1).1).0

-- what is bound has no fault
bound_well : (f : Option BindFault) (x b : Bound) → by_fault f x ≡ Ok b → (f ≡ None) × (x ≡ b)
bound_well (Some f) x b h = absurd (cc h)
bound_well None x b h = (refl, cc h)

-- the law of what a query without a fault comes to
of_query : (names : List Bytes) (q : Query) → join_form q ≡ None
    → let x = bound_query (record { names = names; second = q.second }) q in
    length (chunk_texts names q x.shape) ≡ length (columns_of (chunk_query_of x) x.shape)
unfolding bound_query
of_query names q none =
    shape_each names q (record { names = names; second = q.second }) q.second (is_grouped q)
    (first_or (pos 0) (flat_map chord_limit (top_tests q.cond))) refl refl refl none

-- one text for each column
pub one_text_each : OneTextEach
unfolding bound_of
one_text_each names q b h =
    let well = bound_well (bind_fault names q) (bound_query (record { names = names; second = q.second }) q) b h in
    subst (λ x. length (chunk_texts names q x.shape) ≡ length (columns_of (chunk_query_of x) x.shape)) well.1
    (of_query names q (no_join_fault names q well.0))
