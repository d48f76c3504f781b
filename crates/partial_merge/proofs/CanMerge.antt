-- Of a piece of groups each item of the query's merge can be merged.
use Rattle.std.proofs.Common.{◌≡◌, ℕ, zero, suc, ◌+◌, ◌<◌, ℤ, nat_abs, true, List, [], ◌∷◌, ◌++◌, map, length, length-append, refl, sym, ap, subst, ◌∙◌, arith, append_assoc, Ordering}
use Rattle.std.specs.List.{All, AllByRecursion as Each, flat_map, list_all}
use Rattle.std.specs.Prelude.{IfSome, slice_get, unwrap_or}
use Rattle.std.proofs.lemmas.Bool.{and_parts}
use Rattle.std.proofs.lemmas.List.{length-map}
use Rattle.std.proofs.lemmas.List.Elements.{All-from_recursion, recursion_from_All}
use Rattle.table_rules.specs.Objects.{Obj, IsRow, column_bound}
use Rattle.sky_rules.specs.Partition.{Partition}
use Rattle.sql_bound.specs.declared.cond.BoundCond.{BoundCond}
use Rattle.sql_bound.specs.declared.expr.BoundCol.{BoundCol}
use Rattle.sql_bound.specs.declared.expr.BoundExpr.{BoundExpr}
use Rattle.sql_bound.specs.declared.query.Bound.{Bound}
use Rattle.sql_bound.specs.declared.query.BoundItem.{BoundItem}
use Rattle.sql_bound.specs.declared.query.BoundItem.TheVariants as item
use Rattle.sql_bound.specs.declared.query.Shape.{Shape}
use Rattle.sql_bound.specs.declared.query.Shape.TheVariants.{Rows, Pairs, Groups}
use Rattle.value_rules.specs.Laws.{IsWithinBounds}
use Rattle.value_rules.specs.Keys.{key_cell}
use Rattle.value_rules.specs.Ranges.{IsInRangeAt, subterms_of}
use Rattle.value_rules.specs.Sound.{IsSound, is_plain_col, is_sound_expr, is_sound_item}
use Rattle.value_rules.specs.Terms.{term_of}
use Rattle.value_rules.specs.Values.{Pick, cell_of, row, value_at}
use Rattle.value_rules.specs.Widths.{IsOfSize, most}
use Rattle.value_rules.proofs.Ranges.{narrow, parts_size, row_is_within}
use Rattle.answer_rules.specs.declared.rewritten.ChunkItem.{ChunkItem}
use Rattle.answer_rules.specs.declared.rewritten.ChunkItem.TheVariants as part
use Rattle.answer_rules.specs.declared.rewritten.MergePlan.{MergePlan}
use Rattle.answer_rules.specs.Aggregates.{all_joined, sum_two, values_on}
use Rattle.answer_rules.specs.Finish.{groups_merged, no_rows, part_at}
use Rattle.answer_rules.specs.Gather.{Partial}
use Rattle.answer_rules.specs.Keys.{Key, key_of, key_order, keys_in, of_key}
use Rattle.answer_rules.specs.Parts.{Part, Sums, count_part, part_over, partials_of, sums_over}
use Rattle.answer_rules.specs.Picks.{found}
use Rattle.answer_rules.specs.Pieces.{PieceView, OfRows, OfGroups, PieceBy, PieceFor}
use Rattle.answer_rules.specs.ChunkQueries.{chunk_items_of, chunk_query_of, group_parts}
use Rattle.answer_rules.specs.Rewriting.{group_merged, merged_from}
use Rattle.answer_rules.specs.Small.{IsSmallGroup, IsSmallPart}
use Rattle.answer_rules.proofs.Apart.{each_filter, each_map}
use Rattle.answer_rules.proofs.Cuts.{cut_is_sound}
use Rattle.answer_rules.proofs.Grouping.{climb_put_each}
use Rattle.answer_rules.proofs.KeysInRange.{key_item_is_in_range}
use Rattle.answer_rules.proofs.Orders.{each_weaker}
use Rattle.answer_rules.proofs.Smallness.{piece_is_small}
use Rattle.partial_groups.specs.Groups.{Gathered, group_by}
use Rattle.partial_merge.specs.Joining.{MayFinish}
use Rattle.partial_merge.specs.Merging.{CanFinish, CanMerge}
use Rattle.partial_groups.specs.Merging.{IsOnKey, MayMerge}
use Rattle.partial_merge.proofs.Standing.{may_finish_apart}

-- ---- the parts of some rows, at their places

found_at : (rows : List Pick) (pre post : List ChunkItem) (x : ChunkItem) → unwrap_or (slice_get (map (part_over rows) (pre ++ (x ∷ post))) (length pre)) (count_part 0) ≡ part_over rows x
found_at rows [] post x = refl
found_at rows (y ∷ pre) post x = found_at rows pre post x

found_next : (rows : List Pick) (pre post : List ChunkItem) (x y : ChunkItem) → unwrap_or (slice_get (map (part_over rows) (pre ++ (x ∷ (y ∷ post)))) (suc (length pre))) (count_part 0) ≡ part_over rows y
found_next rows [] post x y = refl
found_next rows (z ∷ pre) post x y = found_next rows pre post x y

small_at : (size : ℕ) (rows : List Pick) (pre post : List ChunkItem) (x : ChunkItem) → Each (IsSmallPart size) (map (part_over rows) (pre ++ (x ∷ post))) → IsSmallPart size (part_over rows x)
small_at size rows [] post x h = h.0
small_at size rows (y ∷ pre) post x h = small_at size rows pre post x h.1

-- a group of these rows
abbrev of_rows : Key → ℕ → List Pick → List ChunkItem → Partial Key Sums
of_rows key size rows items = group_by key size (map (part_over rows) items)

part_here : (key : Key) (size : ℕ) (rows : List Pick) (pre post : List ChunkItem) (x : ChunkItem) (n : ℕ) → n ≡ length pre → part_at (of_rows key size rows (pre ++ (x ∷ post))) n ≡ part_over rows x
part_here key size rows pre post x n e = ap (λ k. unwrap_or (slice_get (map (part_over rows) (pre ++ (x ∷ post))) k) (count_part 0)) e ∙ found_at rows pre post x

part_next : (key : Key) (size : ℕ) (rows : List Pick) (pre post : List ChunkItem) (x y : ChunkItem) (n : ℕ) → n ≡ length pre → part_at (of_rows key size rows (pre ++ (x ∷ (y ∷ post)))) (n + 1) ≡ part_over rows y
part_next key size rows pre post x y n e =
    let next : n + 1 ≡ suc (length pre) = omega (arith, e) in
    ap (λ k. unwrap_or (slice_get (map (part_over rows) (pre ++ (x ∷ (y ∷ post)))) k) (count_part 0)) next ∙ found_next rows pre post x y

-- a total of some values is of at least one
some_counted : (vs : List ℤ) → IfSome (all_joined sum_two vs) (λ t. 0 < length vs)
some_counted [] = tt
some_counted (z ∷ vs) = omega arith

-- ---- each item of a group

-- an expression of the keys can be computed on the key
abbrev OnKey : List BoundCol → Key → BoundItem → Type 0
OnKey keys key (item.Plain e) = IsOnKey keys key e
OnKey keys key item.Count = Unit {0}
OnKey keys key (item.CountOf e) = Unit {0}
OnKey keys key (item.Sum e) = Unit {0}
OnKey keys key (item.Min e) = Unit {0}
OnKey keys key (item.Max e) = Unit {0}
OnKey keys key (item.Avg e) = Unit {0}

item_may : (keys : List BoundCol) (key : Key) (size : ℕ) (rows : List Pick) (pre post : List ChunkItem) (n : ℕ) (i : BoundItem) → OnKey keys key i → n ≡ length pre → Each (IsSmallPart size) (map (part_over rows) (pre ++ (group_parts i ++ post))) → MayMerge keys (of_rows key size rows (pre ++ (group_parts i ++ post))) (group_merged n i)
item_may keys key size rows pre post n (item.Plain e) k l h = k
item_may keys key size rows pre post n item.Count k l h = tt
item_may keys key size rows pre post n (item.CountOf e) k l h = tt
item_may keys key size rows pre post n (item.Sum e) k l h = tt
item_may keys key size rows pre post n (item.Min e) k l h =
    subst (λ (p : Part). IsOfSize most p.value) (sym (part_here key size rows pre post (part.Min e) n l)) (IsSmallPart.value (small_at size rows pre post (part.Min e) h))
item_may keys key size rows pre post n (item.Max e) k l h =
    subst (λ (p : Part). IsOfSize most p.value) (sym (part_here key size rows pre post (part.Max e) n l)) (IsSmallPart.value (small_at size rows pre post (part.Max e) h))
item_may keys key size rows pre post n (item.Avg e) k l h =
    let g : Partial Key Sums = of_rows key size rows (pre ++ (part.Sum e ∷ (part.CountOf e ∷ post))) in
    subst (λ (p : Part). IfSome p.value (λ t. 0 < (part_at g (n + 1)).seen)) (sym (part_here key size rows pre (part.CountOf e ∷ post) (part.Sum e) n l))
    (subst (λ (p : Part). IfSome (all_joined sum_two (values_on e rows)) (λ t. 0 < p.seen)) (sym (part_next key size rows pre post (part.Sum e) (part.CountOf e) n l)) (some_counted (values_on e rows)))

items_may : (keys : List BoundCol) (key : Key) (size : ℕ) (rows : List Pick) (items : List BoundItem) (pre : List ChunkItem) (n : ℕ) → Each (OnKey keys key) items → n ≡ length pre → Each (IsSmallPart size) (map (part_over rows) (pre ++ flat_map group_parts items)) → Each (MayMerge keys (of_rows key size rows (pre ++ flat_map group_parts items))) (merged_from (Groups keys) n items)
items_may keys key size rows [] pre n k l h = tt
items_may keys key size rows (i ∷ items) pre n k l h =
    let rest : List ChunkItem = flat_map group_parts items in
    let all : (pre ++ group_parts i) ++ rest ≡ pre ++ (group_parts i ++ rest) = append_assoc pre (group_parts i) rest in
    let later = items_may keys key size rows items (pre ++ group_parts i) (n + length (group_parts i)) k.1 (omega (arith, l, length-append pre (group_parts i)))
    (subst (λ (is : List ChunkItem). Each (IsSmallPart size) (map (part_over rows) is)) (sym all) h)
    in (
      item_may keys key size rows pre rest n i k.0 l h,
      subst (λ (is : List ChunkItem). Each (MayMerge keys (of_rows key size rows is)) (merged_from (Groups keys) (n + length (group_parts i)) items)) all later,
    )

-- ---- over no rows

none_at : (n : ℕ) → part_at no_rows n ≡ count_part 0
none_at zero = refl
none_at (suc n) = refl

none_of_size : (n : ℕ) → IsOfSize most (part_at no_rows n).value
none_of_size n = subst (λ (p : Part). IsOfSize most p.value) (sym (none_at n)) tt

none_may : (items : List BoundItem) (n : ℕ) → Each (OnKey [] []) items → Each (MayMerge [] no_rows) (merged_from (Groups []) n items)
none_may [] n k = tt
none_may (item.Plain e ∷ items) n k = (k.0, none_may items (n + 0) k.1)
none_may (item.Count ∷ items) n k = (tt, none_may items (n + 1) k.1)
none_may (item.CountOf e ∷ items) n k = (tt, none_may items (n + 1) k.1)
none_may (item.Sum e ∷ items) n k = (tt, none_may items (n + 1) k.1)
none_may (item.Min e ∷ items) n k = (none_of_size n, none_may items (n + 1) k.1)
none_may (item.Max e ∷ items) n k = (none_of_size n, none_may items (n + 1) k.1)
none_may (item.Avg e ∷ items) n k =
    (subst (λ (p : Part). IfSome p.value (λ t. 0 < (part_at no_rows (n + 1)).seen)) (sym (none_at n)) tt, none_may items (n + 2) k.1)

-- ---- expressions of the keys

abbrev InRange : List BoundCol → Key → BoundExpr → Type 0
InRange keys key e = IsInRangeAt (key_cell keys key) (term_of e)

items_on_key : (columns : ℕ) (keys : List BoundCol) (key : Key) → length key ≡ length keys → ((e : BoundExpr) → is_sound_expr (is_plain_col columns (Groups keys)) e ≡ true → InRange keys key e) → (items : List BoundItem) → list_all (is_sound_item columns (Groups keys)) items ≡ true → Each (OnKey keys key) items
items_on_key columns keys key l f [] h = tt
items_on_key columns keys key l f (i ∷ items) h =
    let both = and_parts (is_sound_item columns (Groups keys) i) (list_all (is_sound_item columns (Groups keys)) items) h in
    (one i both.0, items_on_key columns keys key l f items both.1)
  where
    one : (i : BoundItem) → is_sound_item columns (Groups keys) i ≡ true → OnKey keys key i
    one (item.Plain e) k = record { long = l; range = f e k }
    one item.Count k = tt
    one (item.CountOf e) k = tt
    one (item.Sum e) k = tt
    one (item.Min e) k = tt
    one (item.Max e) k = tt
    one (item.Avg e) k = tt

-- on the key of a row
row_on_key : (columns : ℕ) (keys : List BoundCol) (items : List BoundItem) → list_all (is_sound_item columns (Groups keys)) items ≡ true → (p : Pick) → IsWithinBounds p → Each (OnKey keys (key_of keys p)) items
row_on_key columns keys items h p b = items_on_key columns keys (key_of keys p) (length-map keys (cell_of p)) (λ e s. key_item_is_in_range columns keys e p s b) items h

no_cells : (c : BoundCol) → IsOfSize (nat_abs (column_bound c.col)) (key_cell [] [] c)
no_cells c = tt

-- without keys
none_on_key : (columns : ℕ) (items : List BoundItem) → list_all (is_sound_item columns (Groups [])) items ≡ true → Each (OnKey [] []) items
none_on_key columns items h =
    items_on_key columns [] [] refl (λ e s. All-from_recursion (λ u. IsOfSize most (value_at (key_cell [] []) u)) (subterms_of (term_of e)) (parts_size (key_cell [] []) no_cells most (term_of e) (narrow (is_plain_col columns (Groups [])) (term_of e) s))) items h

each_key : {R K : Type 0} (cmp : K → K → Ordering) (key : R → K) (Q : K → Type 0) (rows : List R) → Each (λ r. Q (key r)) rows → Each Q (keys_in cmp key rows)
each_key cmp key Q [] h = tt
each_key cmp key Q (r ∷ rs) h = climb_put_each cmp Q (key r) (keys_in cmp key rs) h.0 (each_key cmp key Q rs h.1)

-- ---- the groups of some rows

abbrev CanAll : List BoundCol → List BoundItem → Partial Key Sums → Type 0
CanAll keys items g = All (MayMerge keys g) (merged_from (Groups keys) 0 items)

groups_may : (keys : List BoundCol) (items : List BoundItem) (rows : List Pick) (ks : List Key) → Each (λ k. Each (OnKey keys k) items) ks → Each IsSmallGroup (map (λ (k : Key). let p : Partial Key Sums = record { key = k; part = sums_over (flat_map group_parts items) (of_key key_order (key_of keys) k rows) } in p) ks) → Each (CanAll keys items) (map (λ (k : Key). let p : Partial Key Sums = record { key = k; part = sums_over (flat_map group_parts items) (of_key key_order (key_of keys) k rows) } in p) ks)
groups_may keys items rows [] k s = tt
groups_may keys items rows (l ∷ ks) k s = (
  All-from_recursion _ _ (items_may keys l (length (of_key key_order (key_of keys) l rows)) (of_key key_order (key_of keys) l rows) items [] 0 k.0 refl s.0),
  groups_may keys items rows ks k.1 s.1,
)

partials_may : (columns : ℕ) (keys : List BoundCol) (items : List BoundItem) (rows : List Pick) → list_all (is_sound_item columns (Groups keys)) items ≡ true → Each IsWithinBounds rows → Each IsSmallGroup (partials_of keys (flat_map group_parts items) rows) → Each (CanAll keys items) (partials_of keys (flat_map group_parts items) rows)
partials_may columns keys items rows h b s =
    groups_may keys items rows (keys_in key_order (key_of keys) rows)
    (each_key key_order (key_of keys) (λ k. Each (OnKey keys k) items) rows (each_weaker IsWithinBounds (λ p. Each (OnKey keys (key_of keys p)) items) (row_on_key columns keys items h) rows b)) s

-- the one group without keys among them
merged_may : (columns : ℕ) (keys : List BoundCol) (items : List BoundItem) (gs : Gathered) → list_all (is_sound_item columns (Groups keys)) items ≡ true → Each (CanAll keys items) gs → Each (CanAll keys items) (groups_merged keys gs)
merged_may columns [] items [] h k = (All-from_recursion _ _ (none_may items 0 (none_on_key columns items h)), tt)
merged_may columns [] items (g ∷ gs) h k = k
merged_may columns (c ∷ keys) items gs h k = k

-- ---- pieces

rows_within : (table : List Obj) → Each IsRow table → Each IsWithinBounds (map row table)
rows_within table h = each_map IsWithinBounds row table (each_weaker IsRow (λ o. IsWithinBounds (row o)) (λ o r. row_is_within o r) table h)

found_within : (g : Partition) (table : List Obj) (keys : List BoundCol) (conds : List BoundCond) (B : List ℕ) → All IsRow table → Each IsWithinBounds (found g table (Groups keys) conds B)
found_within g table keys conds B h = each_filter IsWithinBounds _ (map row table) (rows_within table (recursion_from_All IsRow table h))

same_groups : (gs hs : Gathered) → OfGroups gs ≡ OfGroups hs → gs ≡ hs
same_groups gs hs e = cc (e)

can_by : (shape : Shape) (columns : ℕ) (g : Partition) (table : List Obj) (q : Bound) (B : List ℕ) (gs : Gathered) → q.shape ≡ shape → IsSound columns q → All IsRow table → PieceFor g table (chunk_query_of q) B (OfGroups gs) → PieceBy shape g table (chunk_query_of q) B (OfGroups gs) → CanMerge shape (merged_from shape 0 q.items) gs
can_by Rows columns g table q B gs e s r p h = absurd h
can_by (Pairs limit) columns g table q B gs e s r p h = absurd h
can_by (Groups keys) columns g table q B gs e s r p h =
    let rows : List Pick = found g table (Groups keys) q.conds B in
    let is : gs ≡ partials_of keys (flat_map group_parts q.items) rows = same_groups gs _ h ∙ ap (λ shape. partials_of keys (flat_map (chunk_items_of shape) q.items) (found g table shape q.conds B)) e in
    let sound : list_all (is_sound_item columns (Groups keys)) q.items ≡ true = subst (λ shape. list_all (is_sound_item columns shape) q.items ≡ true) e s.items in
    let small : Each IsSmallGroup (partials_of keys (flat_map group_parts q.items) rows) = subst (Each IsSmallGroup) is (piece_is_small columns g table (chunk_query_of q) B (OfGroups gs) (cut_is_sound columns q s) r p).1 in
    All-from_recursion _ _
    (merged_may columns keys q.items gs sound
    (subst (Each (CanAll keys q.items)) (sym is) (partials_may columns keys q.items rows sound (found_within g table keys q.conds B r) small)))

-- a piece that may be finished can be
pub can_finish : (merge : MergePlan) (view : PieceView) → MayFinish merge view → CanFinish merge view
can_finish merge (OfRows pushed rows) m = may_finish_apart merge pushed rows m
can_finish merge (OfGroups gs) m =
    subst (λ (p : MergePlan). CanFinish p (OfGroups gs)) (sym m.merge_is)
    (can_by m.q.shape _ m.base.plan m.base.rows.objects m.q m.chunks gs refl m.sound m.fits.rows.rows m.stands m.stands)
