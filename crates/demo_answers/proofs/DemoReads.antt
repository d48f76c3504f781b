-- The demo's queries as they are read: their texts, their trees, and what the trees are bound to.
use Rattle.std.proofs.Common.{refl, ℕ, List, None, Ok, Some, [], codes, false, pos, true, ◌++◌, ◌∷◌, ◌≡◌}
use Rattle.sql_token.specs.Keywords.{keyword_of}
use Rattle.sql_token.specs.Tokens.{tokens_from, too_deep}
use Rattle.sql_rules.specs.Readers.{many}
use Rattle.sql_rules.specs.ReadExprs.{col_at, bracket_with, atom_with, factor_with, prod_with, signed_with, sum_with}
use Rattle.sql_rules.specs.ReadExprs.{expr_at, int_at, more_ints_at, ints_at}
use Rattle.sql_rules.specs.ReadConds.{between_with, range_with, null_at, said_with, chord_behind, chord_at, area_with}
use Rattle.sql_rules.specs.ReadConds.{group_with, other_with, pred_with, neg_with, conj_with, any_with, cond_at}
use Rattle.sql_rules.specs.ReadQueries.{argument_at, counted_at, plain_at, high_at, kind_at, as_at, item_at}
use Rattle.sql_rules.specs.ReadQueries.{item_list_at, items_at, alias_at, table_at, second_at, where_at, cols_at}
use Rattle.sql_rules.specs.ReadQueries.{group_at, way_at, sorted_at, order_at, limit_at}
use Rattle.sql_rules.specs.Trees.{from_at, front_at, query_at, query_of, tree_of}
use Rattle.bind_rules.specs.Mentions.{columns_of, mentions_of_cond}
use Rattle.bind_rules.specs.Widths.{width_of, exprs_of}
use Rattle.bind_rules.specs.Names.{unknown_by, not_grouped}
use Rattle.bind_rules.specs.Forms.{join_form, area_form}
use Rattle.bind_rules.specs.Checks.{too_wide_by, order_by, fault_by}
use Rattle.bind_rules.specs.Bounds.{expr_by}
use Rattle.bind_rules.specs.IdTests.{lone_of}
use Rattle.bind_rules.specs.Binding.{bound_query, bound_of}
use Rattle.sql_bound.specs.Trees.{factor, product, sum, cond_of}
use Rattle.sql_tree.specs.declared.query.Query.{Query}
use Rattle.sql_tree.specs.declared.cond.AreaKind.TheVariants as area
use Rattle.sql_tree.specs.declared.cond.Cmp.TheVariants as cmp
use Rattle.sql_tree.specs.declared.cond.Pred.TheVariants as pred
use Rattle.sql_tree.specs.declared.expr.Atom.TheVariants as atom
use Rattle.sql_tree.specs.declared.query.ItemKind.TheVariants as what
use Rattle.sql_rules.specs.Examples.{name, alone}
use Rattle.transcript_rules.specs.Written.{col, own, item, items, table, called, says, each, some_of, int, ints, by}
use Rattle.transcript_rules.specs.Written.{query}
use Rattle.transcript_rules.proofs.Reading.{columns, sums, conditions, by_compare, by_area, by_chord}
use Rattle.demo_answers.proofs.DemoQueries.{demo_totals, demo_kinds, demo_belt, demo_pairs}

-- the further columns of the demo's catalogue
abbrev pub demo_names : List (List ℕ)
demo_names = codes "flux" ∷ codes "kind" ∷ []

-- ---- the totals of all objects

abbrev pub text_totals : List ℕ
text_totals = codes "SELECT COUNT(*),SUM(flux),AVG(flux),MIN(z),MAX(z) FROM Object"

abbrev pub tree_totals : Query
tree_totals =
    query (items (item what.Count) ((item (what.Sum (alone (atom.Col (col (name (codes "flux") 20 24)))))) ∷ (item
    (what.Avg (alone (atom.Col (col (name (codes "flux") 30 34)))))) ∷ (item (what.Min (alone (atom.Col (col
    (name (codes "z") 40 41)))))) ∷ (item (what.Max (alone (atom.Col (col (name (codes "z") 47 48)))))) ∷ []))
    (table (name (codes "Object") 55 61)) None None [] None None

pub read_totals : tree_of text_totals ≡ Ok tree_totals
unfolding keyword_of tokens_from too_deep many col_at bracket_with atom_with factor_with prod_with signed_with
    sum_with expr_at argument_at counted_at plain_at high_at kind_at as_at item_at item_list_at items_at alias_at
    table_at second_at where_at cols_at group_at way_at sorted_at order_at limit_at from_at front_at query_at query_of
    tree_of
read_totals = refl

pub bound_totals : bound_of demo_names tree_totals ≡ Ok demo_totals
unfolding columns_of width_of unknown_by not_grouped join_form area_form too_wide_by order_by fault_by expr_by
    bound_query bound_of factor product sum
bound_totals = simp columns

-- ---- the kinds of the northern half

abbrev pub text_kinds : List ℕ
text_kinds = codes "SELECT kind,COUNT(*),MAX(flux) FROM Object WHERE z>=0 GROUP BY kind"

abbrev pub tree_kinds : Query
tree_kinds =
    query (items (item (what.Plain (alone (atom.Col (col (name (codes "kind") 7 11)))))) ((item what.Count) ∷ (item
    (what.Max (alone (atom.Col (col (name (codes "flux") 25 29)))))) ∷ []))
    (table (name (codes "Object") 36 42)) None
    (Some (some_of (each (says (pred.Compare (alone (atom.Col (col (name (codes "z") 49 50)))) cmp.AtLeast (alone
    (atom.Int (pos 0))))) []) []))
    ((col (name (codes "kind") 63 67)) ∷ []) None None

pub read_kinds : tree_of text_kinds ≡ Ok tree_kinds
unfolding keyword_of tokens_from too_deep many col_at bracket_with atom_with factor_with prod_with signed_with
    sum_with expr_at int_at more_ints_at ints_at between_with range_with null_at said_with chord_behind chord_at
    area_with group_with other_with pred_with neg_with conj_with any_with cond_at argument_at counted_at plain_at
    high_at kind_at as_at item_at item_list_at items_at alias_at table_at second_at where_at cols_at group_at way_at
    sorted_at order_at limit_at from_at front_at query_at query_of tree_of
read_kinds = refl

pub bound_kinds : bound_of demo_names tree_kinds ≡ Ok demo_kinds
unfolding columns_of mentions_of_cond width_of exprs_of unknown_by not_grouped join_form area_form too_wide_by
    order_by fault_by expr_by lone_of bound_query bound_of factor product sum cond_of
bound_kinds = simp (columns, sums, conditions, by_compare)

-- ---- the brightest of a band

abbrev pub text_belt : List ℕ
text_belt = codes "SELECT objectId,flux FROM Object WHERE area_band(-1000000,1000000) ORDER BY flux DESC "
    ++ codes "LIMIT 5"

abbrev pub tree_belt : Query
tree_belt =
    query (items (item (what.Plain (alone (atom.Col (col (name (codes "objectId") 7 15)))))) ((item (what.Plain
    (alone (atom.Col (col (name (codes "flux") 16 20)))))) ∷ []))
    (table (name (codes "Object") 26 32)) None
    (Some (some_of (each (says (pred.Area area.Band (record { from = 39; to = 48 }) (ints (int true (pos 1000000))
    ((int false (pos 1000000)) ∷ [])))) []) []))
    [] (by (col (name (codes "flux") 76 80)) true) (Some (pos 5))

pub read_belt : tree_of text_belt ≡ Ok tree_belt
unfolding keyword_of tokens_from too_deep many col_at bracket_with atom_with factor_with prod_with signed_with
    sum_with expr_at int_at more_ints_at ints_at between_with range_with null_at said_with chord_behind chord_at
    area_with group_with other_with pred_with neg_with conj_with any_with cond_at argument_at counted_at plain_at
    high_at kind_at as_at item_at item_list_at items_at alias_at table_at second_at where_at cols_at group_at way_at
    sorted_at order_at limit_at from_at front_at query_at query_of tree_of
read_belt = refl

pub bound_belt : bound_of demo_names tree_belt ≡ Ok demo_belt
unfolding columns_of mentions_of_cond width_of exprs_of unknown_by not_grouped join_form area_form too_wide_by
    order_by fault_by expr_by lone_of bound_query bound_of factor product sum cond_of
bound_belt = simp (columns, conditions, by_area)

-- ---- five near pairs

abbrev pub text_pairs : List ℕ
text_pairs = codes "SELECT a.objectId,b.objectId FROM Object a,Object b WHERE chord2(a,b)<=4294967296 AND "
    ++ codes "a.objectId<b.objectId LIMIT 5"

abbrev pub tree_pairs : Query
tree_pairs =
    query (items (item (what.Plain (alone (atom.Col (own (name (codes "a") 7 8) (name (codes "objectId") 9 17))))))
    ((item (what.Plain (alone (atom.Col (own (name (codes "b") 18 19) (name (codes "objectId") 20 28)))))) ∷
    []))
    (called (name (codes "Object") 34 40) (name (codes "a") 41 42))
    (Some (called (name (codes "Object") 43 49) (name (codes "b") 50 51)))
    (Some (some_of (each (says (pred.Chord (name (codes "a") 65 66) (name (codes "b") 67 68) false (pos
    4294967296))) ((says (pred.Compare (alone (atom.Col (own (name (codes "a") 86 87)
    (name (codes "objectId") 88 96)))) cmp.Less (alone (atom.Col (own (name (codes "b") 97 98)
    (name (codes "objectId") 99 107)))))) ∷ [])) []))
    [] None (Some (pos 5))

pub read_pairs : tree_of text_pairs ≡ Ok tree_pairs
unfolding keyword_of tokens_from too_deep many col_at bracket_with atom_with factor_with prod_with signed_with
    sum_with expr_at int_at more_ints_at ints_at between_with range_with null_at said_with chord_behind chord_at
    area_with group_with other_with pred_with neg_with conj_with any_with cond_at argument_at counted_at plain_at
    high_at kind_at as_at item_at item_list_at items_at alias_at table_at second_at where_at cols_at group_at way_at
    sorted_at order_at limit_at from_at front_at query_at query_of tree_of
read_pairs = refl

pub bound_pairs : bound_of demo_names tree_pairs ≡ Ok demo_pairs
unfolding columns_of mentions_of_cond width_of exprs_of unknown_by not_grouped join_form area_form too_wide_by
    order_by fault_by expr_by lone_of bound_query bound_of factor product sum cond_of
bound_pairs = simp (columns, conditions, by_compare, by_chord)
