-- A query that binds can be run.
use Rattle.std.specs.Prelude.{option_to_list}
use Rattle.std.proofs.Common.{◌≡◌, ℕ, ◌<◌, Bool, true, false, List, ◌∷◌, map, length, Option, Some, None, refl, sym, subst, arith, All}
use Rattle.std.specs.Prelude.{◌&&◌, ◌||◌, not, nat_lt, if◌then◌else◌}
use Rattle.std.specs.List.{AllByRecursion as Each, flat_map, list_all, position}
use Rattle.std.specs.Option.{is_some, option_map}
use Rattle.std.proofs.lemmas.Bool.{and_parts}
use Rattle.std.proofs.lemmas.List.{length-map}
use Rattle.std.proofs.lemmas.List.Elements.{All-from_recursion, recursion_from_All}
use Rattle.std.proofs.lemmas.List.Quantifiers.{position-Some}
use Rattle.sql_bound.specs.declared.area.AreaTest.{AreaTest}
use Rattle.sql_bound.specs.declared.expr.BoundCol.{BoundCol}
use Rattle.sql_bound.specs.declared.query.Bound.{Bound}
use Rattle.sql_tree.specs.declared.cond.Cond.{Cond}
use Rattle.sql_tree.specs.declared.name.Col.{Col}
use Rattle.sql_tree.specs.declared.name.Name.{Name}
use Rattle.sql_tree.specs.declared.query.Item.{Item}
use Rattle.sql_tree.specs.declared.query.OrderBy.{OrderBy}
use Rattle.sql_tree.specs.declared.query.Query.{Query}
use Rattle.sql_tree.specs.declared.query.Selection.{Selection}
use Rattle.sql_tree.specs.declared.query.Selection.TheVariants as selection
use Rattle.sql_tree.specs.Spans.{col_span}
use Rattle.bind_rules.specs.declared.fault.BindFault.TheVariants as fault
use Rattle.value_rules.specs.Sound.{has_col, is_paired, is_plain_col, is_sound_cond, is_sound_area, is_sound_order, is_sound_key, IsSound}
use Rattle.bind_rules.specs.Areas.{area_test}
use Rattle.bind_rules.specs.Binding.{item_by, bound_items, bound_shape, key_by, bound_order, bound_query}
use Rattle.bind_rules.specs.Bounds.{Meaning, Scope, bound_col, object_columns}
use Rattle.bind_rules.specs.Checks.{alias_place, is_named, is_sortable, order_by, order_fault}
use Rattle.bind_rules.specs.Columns.{tables, is_join, is_known, is_qualified_well}
use Rattle.bind_rules.specs.Forms.{area_form, values_of}
use Rattle.bind_rules.specs.IdTests.{areas_by}
use Rattle.bind_rules.specs.Laws.{HasCounts, BoundIsSound}
use Rattle.bind_rules.specs.Mentions.{items_of, item_exprs}
use Rattle.bind_rules.specs.Names.{is_grouped, is_key}
use Rattle.bind_rules.specs.Tops.{Test, Area, Chord, Equals, Listed, tests_in, top_tests}
use Rattle.bind_rules.specs.Wholes.{conds_in}
use Rattle.bind_rules.specs.Widths.{exprs_in}
use Rattle.bind_rules.proofs.AreaTests.{IsSoundArea, area_sound}
use Rattle.bind_rules.proofs.Conds.{IsSoundExpr, HasForm, FoundForm, conjuncts_sound}
use Rattle.bind_rules.proofs.Each.{back, weaker, of_parts, all_pass, IfThere}
use Rattle.bind_rules.proofs.Exprs.{IsThere}
use Rattle.bind_rules.proofs.Found.{tops_found}
use Rattle.bind_rules.proofs.Faultless.{Faultless, scope_of, binds, good_areas, IsTopArea}
use Rattle.bind_rules.proofs.Places.{below_true, count, has_there, key_there}
use Rattle.table_rules.proofs.Catalogues.{accepted_is_catalogue}
use Rattle.table_rules.specs.Objects.{Obj, IsRow}
use Rattle.value_rules.specs.Ranges.{IsInRange}
use Rattle.value_rules.specs.Values.{Pick, row, pair}
use Rattle.value_rules.specs.Laws.{IsWithinBounds}
use Rattle.value_rules.proofs.Ranges.{computed_is_in_range, row_is_within, pair_is_within}
use Rattle.bind_rules.specs.Laws.{ValuesAreInRange}
use Rattle.bind_rules.proofs.Shapes.{if_no_fault, exprs_sound, shape_by, single_has, shape_sound}
use Rattle.bind_rules.proofs.Items.{items_sound}

-- ---- conditions and areas

pub forms : (q : Query) → Each IsTopArea (tests_in q.cond) → Each FoundForm (tests_in q.cond)
forms q h = weaker IsTopArea FoundForm (λ t k. k.0) (tests_in q.cond) h

-- the conditions of WHERE are sound, if its expressions and its area tests are
pub where_sound : (means : Meaning) (allowed : BoundCol → Bool) (c : Option Cond) → Each (IsSoundExpr means allowed) (exprs_in c) → Each FoundForm (tests_in c) → list_all (is_sound_cond allowed) (conds_in means c) ≡ true
where_sound means allowed None h k = refl
where_sound means allowed (Some c) h k = all_pass (is_sound_cond allowed) (conds_in means (Some c)) (conjuncts_sound means allowed c h k)

over_pairs : (s : Scope) (q : Query) (j g : Bool) → is_paired (shape_by s q j g) ≡ j
over_pairs s q true g = refl
over_pairs s q false true = refl
over_pairs s q false false = refl

conds_sound : (names : List (List ℕ)) (q : Query) → Faultless names q → list_all (is_sound_cond (has_col (count names) (is_paired (bound_shape (scope_of names q) q)))) (conds_in (object_columns names q) q.cond) ≡ true
conds_sound names q f =
    let exprs = back (IsSoundExpr (object_columns names q) (has_col (count names) (is_some q.second))) (item_exprs q) (exprs_in q.cond) (exprs_sound names q f) in
    subst (λ b. list_all (is_sound_cond (has_col (count names) b)) (conds_in (object_columns names q) q.cond) ≡ true) (sym (over_pairs (scope_of names q) q (is_join q) (is_grouped q)))
    (where_sound (object_columns names q) (has_col (count names) (is_some q.second)) q.cond exprs (forms q (good_areas q f.area)))

listed_areas : (t : Option AreaTest) → IfThere IsSoundArea t → Each IsSoundArea (option_to_list t)
listed_areas None h = tt
listed_areas (Some t) h = (h, tt)

areas_of_test : (t : Test) → HasForm t → Each IsSoundArea (areas_by t)
areas_of_test (Area kind span args) h = listed_areas (area_test kind (values_of args)) (area_sound kind (values_of args))
areas_of_test (Chord left right strict n) h = tt
areas_of_test (Equals left right) h = tt
areas_of_test (Listed value list) h = tt

-- the area tests at the top are sound, if each has its form
pub areas_sound : (q : Query) → area_form q ≡ None → list_all is_sound_area (flat_map areas_by (top_tests q.cond)) ≡ true
areas_sound q h =
    all_pass is_sound_area (flat_map areas_by (top_tests q.cond))
    (of_parts IsSoundArea areas_by (top_tests q.cond)
    (weaker HasForm (λ t. Each IsSoundArea (areas_by t)) areas_of_test (top_tests q.cond) (tops_found HasForm q.cond (forms q (good_areas q h)))))

-- ---- the order

no_place : {X : Type 0} (x : X) → None ≡ Some x → ⊥
no_place x h = cc

-- an alias is that of an item
place_among : (b : Bool) (n : Name) (is : List Item) (place : ℕ) (d : Item) → (if b then None else position (λ i. is_named n i.alias) is) ≡ Some place → place < length is
place_among true n is place d h = absurd (no_place place h)
place_among false n is place d h = (position-Some (λ i. is_named n i.alias) is place d h).0

-- and so it is below the number of items that are bound one by one
pub place_of_bound : (means : Meaning) (c : Col) (sel : Selection) (place : ℕ) → (if is_some c.table then None else position (λ i. is_named c.name i.alias) (items_of sel)) ≡ Some place → nat_lt place (length (map (λ i. item_by means i.what) (items_of sel))) ≡ true
place_of_bound means c (selection.Star span) place h = absurd (none_of (is_some c.table) h)
  where
    none_of : {place : ℕ} (b : Bool) → (if b then None else None) ≡ Some place → ⊥
    none_of {place} true h = no_place place h
    none_of {place} false h = no_place place h
place_of_bound means c (selection.List l) place h =
    let below = place_among (is_some c.table) c.name (l.first ∷ l.rest) place l.first h in
    let same = length-map (l.first ∷ l.rest) (λ i. item_by means i.what) in
    below_true place (length (map (λ i. item_by means i.what) (l.first ∷ l.rest))) (rw same below)

below_none : (place : ℕ) → nat_lt place 0 ≡ true → ⊥
below_none place h = grind (arith, h)

place_below : (s : Scope) (q : Query) (c : Col) (sel : Selection) (place : ℕ) → (if is_some c.table then None else position (λ i. is_named c.name i.alias) (items_of sel)) ≡ Some place → nat_lt place (length (bound_items s q sel)) ≡ true
place_below s q c (selection.Star span) place h = absurd (below_none place (place_of_bound (bound_col s) c (selection.Star span) place h))
place_below s q c (selection.List l) place h = place_of_bound (bound_col s) c (selection.List l) place h

known_there : (names : List (List ℕ)) (q : Query) (c : Col) → is_known names (tables q) c ≡ true → IsThere (scope_of names q) c
known_there names q c h = (and_parts (is_qualified_well (tables q) c.table) _ h).1

grouped_key : (g k : Bool) → g ≡ true → (not g || k) ≡ true → k ≡ true
grouped_key true k e h = h
grouped_key false k e h = absurd cc

-- a column to order by may stand outside an aggregate
sort_column : (names : List (List ℕ)) (q : Query) (c : Col) (j g : Bool) → is_join q ≡ j → is_grouped q ≡ g → is_sortable (is_known names (tables q)) q c ≡ true → is_plain_col (count names) (shape_by (scope_of names q) q j g) (bound_col (scope_of names q) c) ≡ true
sort_column names q c true g j e h =
    let two = and_parts (is_known names (tables q) c && (not (is_join q) || is_some c.table)) (not (is_grouped q) || is_key q c) h in
    let known = (and_parts (is_known names (tables q) c) _ two.0).0 in
    subst (λ b. has_col (count names) b (bound_col (scope_of names q) c) ≡ true) j (has_there names q.second c (known_there names q c known))
sort_column names q c false true j e h =
    let two = and_parts (is_known names (tables q) c && (not (is_join q) || is_some c.table)) (not (is_grouped q) || is_key q c) h in
    key_there (scope_of names q) c q.group j (grouped_key (is_grouped q) (is_key q c) e two.1)
sort_column names q c false false j e h =
    let two = and_parts (is_known names (tables q) c && (not (is_join q) || is_some c.table)) (not (is_grouped q) || is_key q c) h in
    let known = (and_parts (is_known names (tables q) c) _ two.0).0 in
    single_has names q.second c j (known_there names q c known)

key_sound : (names : List (List ℕ)) (q : Query) (c : Col) (p : Option ℕ) → alias_place q c ≡ p → (is_some p || is_sortable (is_known names (tables q)) q c) ≡ true → is_sound_key (count names) (bound_query (scope_of names q) q) (key_by (scope_of names q) c p) ≡ true
unfolding bound_query
key_sound names q c (Some place) e h = place_below (scope_of names q) q c q.items place e
key_sound names q c None e h = sort_column names q c (is_join q) (is_grouped q) refl refl h

order_sound : (names : List (List ℕ)) (q : Query) (o : Option OrderBy) → order_fault (is_known names (tables q)) q o ≡ None → is_sound_order (count names) (bound_query (scope_of names q) q) (option_map (bound_order (scope_of names q) q) o) ≡ true
order_sound names q None h = refl
order_sound names q (Some o) h = key_sound names q o.key (alias_place q o.key) refl (if_no_fault (is_some (alias_place q o.key) || is_sortable (is_known names (tables q)) q o.key) (fault.OrderName (col_span o.key)) h)

order_is_sound : (names : List (List ℕ)) (q : Query) → Faultless names q → is_sound_order (count names) (bound_query (scope_of names q) q) (option_map (bound_order (scope_of names q) q) q.order) ≡ true
unfolding order_by
order_is_sound names q f = order_sound names q q.order f.order

-- ---- the laws

query_is_sound : (names : List (List ℕ)) (q : Query) → Faultless names q → HasCounts q → IsSound (count names) (bound_query (scope_of names q) q)
unfolding bound_query
query_is_sound names q f h = record {
  shape = shape_sound names q f h (is_join q) (is_grouped q) refl;
  items = items_sound names q f;
  conds = conds_sound names q f;
  areas = areas_sound q f.area;
  order = order_is_sound names q f;
  limit = h.limit;
}

pub bound_is_sound : BoundIsSound
bound_is_sound names q b h e =
    let two = binds names q b e in subst (IsSound (count names)) two.1 (query_is_sound names q two.0 h)

query_in_range : (names : List (List ℕ)) (q : Query) → Faultless names q → (p : Pick) → IsWithinBounds p → IsInRange (bound_query (scope_of names q) q) p
unfolding bound_query
query_in_range names q f p b =
    computed_is_in_range (count names) (bound_query (scope_of names q) q) p (items_sound names q f) (conds_sound names q f) b

each_pick : (b : Bound) → ((p : Pick) → IsWithinBounds p → IsInRange b p) → (objects : List Obj) → Each IsRow objects → All (λ u. IsInRange b (row u) × All (λ v. IsInRange b (pair u v)) objects) objects
each_pick b h objects rows =
    All-from_recursion _ objects
    (weaker IsRow (λ u. IsInRange b (row u) × All (λ v. IsInRange b (pair u v)) objects)
    (λ u k. (
      h (row u) (row_is_within u k),
      All-from_recursion _ objects (weaker IsRow (λ v. IsInRange b (pair u v)) (λ v l. h (pair u v) (pair_is_within u v k l)) objects rows),
    ))
    objects rows)

pub values_are_in_range : ValuesAreInRange
values_are_in_range records c q b accepted e =
    let two = binds c.names q b e in
    let rows = recursion_from_All IsRow c.objects (accepted_is_catalogue records c accepted).rows in
    each_pick b (subst (λ x. (p : Pick) → IsWithinBounds p → IsInRange x p) two.1 (query_in_range c.names q two.0)) c.objects rows
