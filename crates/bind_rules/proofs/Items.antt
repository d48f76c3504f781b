-- A query that binds can be run.
use Rattle.std.proofs.Common.{◌≡◌, ℕ, ◌+◌, ◌<◌, ℤ, pos, Bool, true, false, List, [], ◌∷◌, ◌++◌, map, length, Option, Some, None, refl, sym, subst, arith, ◌∙◌}
use Rattle.std.specs.Prelude.{not}
use Rattle.std.specs.List.{AllByRecursion as Each, flat_map, list_any, list_all, find}
use Rattle.std.specs.Option.{is_some, option_map}
use Rattle.sql_bound.specs.declared.expr.BoundCol.{BoundCol}
use Rattle.sql_bound.specs.declared.query.BoundItem.{BoundItem}
use Rattle.sql_bound.specs.declared.query.Shape.{Shape}
use Rattle.sql_bound.specs.declared.query.Shape.TheVariants as shape
use Rattle.sql_tree.specs.declared.expr.Expr.{Expr}
use Rattle.sql_tree.specs.declared.query.Item.{Item}
use Rattle.sql_tree.specs.declared.query.ItemKind.{ItemKind}
use Rattle.sql_tree.specs.declared.query.ItemKind.TheVariants as what
use Rattle.sql_tree.specs.declared.query.Query.{Query}
use Rattle.sql_tree.specs.declared.query.Selection.{Selection}
use Rattle.sql_tree.specs.declared.query.Selection.TheVariants as selection
use Rattle.sql_tree.specs.Spans.{col_span}
use Rattle.table_rules.specs.Names.{column_names}
use Rattle.value_rules.specs.Sound.{has_col, is_plain_col, is_sound_item, is_sound_at}
use Rattle.value_rules.proofs.Parts.{term_col, term_factor_roll, term_prod_roll, term_expr_roll}
use Rattle.value_rules.specs.Terms.{Column, term_of}
use Rattle.bind_rules.specs.Binding.{just_column, columns_from, star_items, item_by, bound_item, bound_items, chord_limit, first_or, bound_shape}
use Rattle.bind_rules.specs.Bounds.{Meaning, object_columns, Scope, bound_col}
use Rattle.bind_rules.specs.Columns.{is_join}
use Rattle.bind_rules.specs.Mentions.{items_of, expr_of, item_exprs}
use Rattle.bind_rules.specs.Names.{is_aggregate, has_keys, is_grouped, plain_columns, is_key, ungrouped}
use Rattle.bind_rules.specs.Tops.{top_tests}
use Rattle.bind_rules.specs.Widths.{all_exprs, exprs_in}
use Rattle.bind_rules.proofs.Conds.{IsSoundExpr}
use Rattle.bind_rules.proofs.Each.{front, both, mapped, weaker, by_two, in_parts, passed, all_pass, none_found, none_passes, neither}
use Rattle.bind_rules.proofs.Faultless.{Faultless, scope_of}
use Rattle.bind_rules.proofs.Places.{below_true, count, sound_of_cols, key_there, one_column, both_true}
use Rattle.bind_rules.proofs.Shapes.{exprs_sound, shape_by, join_is_plain, told}

-- ---- items

just_term : (second : Bool) (k : ℕ) → term_of (just_column second k) ≡ Column (record { second = second; col = k })
just_term second k =
    let c : BoundCol = record { second = second; col = k } in
    term_expr_roll _ ∙ term_prod_roll _ ∙ term_factor_roll _ ∙ term_col c

-- the columns of a table from one on
columns_sound : (columns : ℕ) (kind : Shape) (second : Bool) (ns : List (List ℕ)) (at : ℕ) → ((k : ℕ) → k < at + length ns → is_plain_col columns kind (record { second = second; col = k }) ≡ true) → list_all (is_sound_item columns kind) (columns_from second at ns) ≡ true
columns_sound columns kind second [] at h = refl
columns_sound columns kind second (n ∷ ns) at h =
    let here : is_sound_at (is_plain_col columns kind) (term_of (just_column second at)) ≡ true = rw (just_term second at) (one_column (is_plain_col columns kind) (record { second = second; col = at }) (h at (omega arith))) in
    both_true _ _ here (columns_sound columns kind second ns (at + 1) (λ k below. h k (omega (arith, below))))

-- the columns of the first table, and in a join those of the second
row_column : (columns k : ℕ) → k < columns → has_col columns false (record { second = false; col = k }) ≡ true
row_column columns k h = both_true _ _ (below_true k columns h) refl

pair_column : (columns k : ℕ) (second : Bool) → k < columns → has_col columns true (record { second = second; col = k }) ≡ true
pair_column columns k true h = both_true _ _ (below_true k columns h) refl
pair_column columns k false h = both_true _ _ (below_true k columns h) refl

all_both : {X : Type 0} (p : X → Bool) (xs ys : List X) → list_all p xs ≡ true → list_all p ys ≡ true → list_all p (xs ++ ys) ≡ true
all_both p xs ys h k = all_pass p (xs ++ ys) (both (λ x. p x ≡ true) xs ys (passed p xs h) (passed p ys k))

star_of_pairs : (names : List (List ℕ)) (limit : ℤ) → list_all (is_sound_item (count names) (shape.Pairs limit)) (star_items names true) ≡ true
star_of_pairs names limit =
    all_both (is_sound_item (count names) (shape.Pairs limit)) (columns_from false 0 (column_names names)) (columns_from true 0 (column_names names))
    (columns_sound (count names) (shape.Pairs limit) false (column_names names) 0 (λ k below. pair_column (count names) k false (omega (arith, below))))
    (columns_sound (count names) (shape.Pairs limit) true (column_names names) 0 (λ k below. pair_column (count names) k true (omega (arith, below))))

star_of_rows : (names : List (List ℕ)) → list_all (is_sound_item (count names) shape.Rows) (star_items names false) ≡ true
star_of_rows names =
    all_both (is_sound_item (count names) shape.Rows) (columns_from false 0 (column_names names)) []
    (columns_sound (count names) shape.Rows false (column_names names) 0 (λ k below. row_column (count names) k (omega (arith, below))))
    refl

-- an item that is no aggregate
plain_item : (means : Meaning) (columns : ℕ) (kind : Shape) (w : ItemKind) → is_aggregate w ≡ false → Each (IsSoundExpr means (is_plain_col columns kind)) (expr_of w) → is_sound_item columns kind (item_by means w) ≡ true
plain_item means columns kind (what.Plain e) h k = k.0
plain_item means columns kind what.Count h k = absurd cc
plain_item means columns kind (what.CountOf e) h k = absurd cc
plain_item means columns kind (what.Sum e) h k = absurd cc
plain_item means columns kind (what.Min e) h k = absurd cc
plain_item means columns kind (what.Max e) h k = absurd cc
plain_item means columns kind (what.Avg e) h k = absurd cc

-- an item of a grouping
group_item : (s : Scope) (columns : ℕ) (keys : List BoundCol) (w : ItemKind) → Each (IsSoundExpr (bound_col s) (has_col columns false)) (expr_of w) → Each (λ c. is_plain_col columns (shape.Groups keys) (bound_col s c) ≡ true) (plain_columns w) → is_sound_item columns (shape.Groups keys) (bound_item s w) ≡ true
group_item s columns keys (what.Plain e) h k = sound_of_cols s (has_col columns false) (is_plain_col columns (shape.Groups keys)) e h.0 k
group_item s columns keys what.Count h k = refl
group_item s columns keys (what.CountOf e) h k = h.0
group_item s columns keys (what.Sum e) h k = h.0
group_item s columns keys (what.Min e) h k = h.0
group_item s columns keys (what.Max e) h k = h.0
group_item s columns keys (what.Avg e) h k = h.0

abbrev bound_list : Scope → List Item → List BoundItem
bound_list s is = map (λ i. bound_item s i.what) is

pub plain_items : (means : Meaning) (columns : ℕ) (kind : Shape) (is : List Item) → Each (λ i. is_aggregate i.what ≡ false) is → Each (λ i. Each (IsSoundExpr means (is_plain_col columns kind)) (expr_of i.what)) is → list_all (is_sound_item columns kind) (map (λ i. item_by means i.what) is) ≡ true
plain_items means columns kind is h k =
    all_pass (is_sound_item columns kind) (map (λ i. item_by means i.what) is)
    (mapped (λ x. is_sound_item columns kind x ≡ true) (λ i. item_by means i.what) is
    (by_two (λ i. is_aggregate i.what ≡ false) (λ i. Each (IsSoundExpr means (is_plain_col columns kind)) (expr_of i.what)) (λ i. is_sound_item columns kind (item_by means i.what) ≡ true) (λ i a b. plain_item means columns kind i.what a b) is h k))

group_items : (s : Scope) (columns : ℕ) (keys : List BoundCol) (is : List Item) → Each (λ i. Each (IsSoundExpr (bound_col s) (has_col columns false)) (expr_of i.what)) is → Each (λ i. Each (λ c. is_plain_col columns (shape.Groups keys) (bound_col s c) ≡ true) (plain_columns i.what)) is → list_all (is_sound_item columns (shape.Groups keys)) (bound_list s is) ≡ true
group_items s columns keys is h k =
    all_pass (is_sound_item columns (shape.Groups keys)) (bound_list s is)
    (mapped (λ x. is_sound_item columns (shape.Groups keys) x ≡ true) (λ i. bound_item s i.what) is
    (by_two (λ i. Each (IsSoundExpr (bound_col s) (has_col columns false)) (expr_of i.what)) (λ i. Each (λ c. is_plain_col columns (shape.Groups keys) (bound_col s c) ≡ true) (plain_columns i.what)) (λ i. is_sound_item columns (shape.Groups keys) (bound_item s i.what) ≡ true) (λ i a b. group_item s columns keys i.what a b) is h k))

mapped_none : {X Y : Type 0} (f : X → Y) (x : Option X) → option_map f x ≡ None → x ≡ None
mapped_none f None h = refl
mapped_none f (Some x) h = absurd cc

not_false : (b : Bool) → not b ≡ false → b ≡ true
not_false true h = refl
not_false false h = absurd cc

-- what a grouping tells is a key
told_columns : (names : List (List ℕ)) (q : Query) (is : List Item) → is_some q.second ≡ false → find (λ c. not (is_key q c)) (flat_map (λ i. plain_columns i.what) is) ≡ None → Each (λ i. Each (λ c. is_plain_col (count names) (shape.Groups (map (bound_col (scope_of names q)) q.group)) (bound_col (scope_of names q) c) ≡ true) (plain_columns i.what)) is
told_columns names q is none h =
    in_parts (λ c. is_plain_col (count names) (shape.Groups (map (bound_col (scope_of names q)) q.group)) (bound_col (scope_of names q) c) ≡ true) (λ i. plain_columns i.what) is
    (weaker (λ c. not (is_key q c) ≡ false) (λ c. is_plain_col (count names) (shape.Groups (map (bound_col (scope_of names q)) q.group)) (bound_col (scope_of names q) c) ≡ true)
    (λ c k. key_there (scope_of names q) c q.group none (not_false (is_key q c) k))
    (flat_map (λ i. plain_columns i.what) is) (none_found (λ c. not (is_key q c)) (flat_map (λ i. plain_columns i.what) is) h))

-- what holds of each expression of a query holds of those of its items
pub item_facts : (P : Expr → Type 0) (q : Query) → Each P (all_exprs q) → Each (λ i. Each P (expr_of i.what)) (items_of q.items)
item_facts P q h = in_parts P (λ i. expr_of i.what) (items_of q.items) (front P (item_exprs q) (exprs_in q.cond) h)

-- a query that is not grouped has no aggregate
pub no_aggregate : (q : Query) → is_grouped q ≡ false → Each (λ i. is_aggregate i.what ≡ false) (items_of q.items)
no_aggregate q g = none_passes (λ i. is_aggregate i.what) (items_of q.items) (neither (list_any (λ i. is_aggregate i.what) (items_of q.items)) (has_keys q.group) g).0

items_by : (names : List (List ℕ)) (q : Query) (sel : Selection) (j g : Bool) → is_join q ≡ j → (j ≡ true → is_grouped q ≡ false) → is_grouped q ≡ g → (j ≡ false → g ≡ true → ungrouped q sel ≡ None) → (is_grouped q ≡ false → Each (λ i. is_aggregate i.what ≡ false) (items_of sel)) → Each (λ i. Each (IsSoundExpr (object_columns names q) (has_col (count names) j)) (expr_of i.what)) (items_of sel) → list_all (is_sound_item (count names) (shape_by (scope_of names q) q j g)) (bound_items (scope_of names q) q sel) ≡ true
items_by names q (selection.Star span) true g j p e u n k =
    subst (λ b. list_all (is_sound_item (count names) (shape_by (scope_of names q) q true g)) (star_items names b) ≡ true) (sym j) (star_of_pairs names (first_or (pos 0) (flat_map chord_limit (top_tests q.cond))))
items_by names q (selection.Star span) false true j p e u n k = absurd (star_untold (u refl refl))
  where
    star_untold : Some span ≡ None → ⊥
    star_untold h = cc
items_by names q (selection.Star span) false false j p e u n k =
    subst (λ b. list_all (is_sound_item (count names) shape.Rows) (star_items names b) ≡ true) (sym j) (star_of_rows names)
items_by names q (selection.List l) true g j p e u n k = plain_items (object_columns names q) (count names) (shape_by (scope_of names q) q true g) (l.first ∷ l.rest) (n (p refl)) k
items_by names q (selection.List l) false true j p e u n k =
    group_items (scope_of names q) (count names) (map (bound_col (scope_of names q)) q.group) (l.first ∷ l.rest) k
    (told_columns names q (l.first ∷ l.rest) j (mapped_none col_span (find (λ c. not (is_key q c)) (flat_map (λ i. plain_columns i.what) (l.first ∷ l.rest))) (u refl refl)))
items_by names q (selection.List l) false false j p e u n k = plain_items (object_columns names q) (count names) shape.Rows (l.first ∷ l.rest) (n e) k

pub items_sound : (names : List (List ℕ)) (q : Query) → Faultless names q → list_all (is_sound_item (count names) (bound_shape (scope_of names q) q)) (bound_items (scope_of names q) q q.items) ≡ true
items_sound names q f =
    items_by names q q.items (is_join q) (is_grouped q) refl (join_is_plain names q f) refl (λ j g. told names q f j g) (no_aggregate q)
    (item_facts (IsSoundExpr (object_columns names q) (has_col (count names) (is_join q))) q (exprs_sound names q f))
