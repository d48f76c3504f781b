use Rattle.sql_token.specs.Keywords.{keyword_of}
use Rattle.sql_token.specs.Tokens.{tokens_from, too_deep}
use Rattle.sql_rules.specs.Readers.{many}
use Rattle.sql_rules.specs.ReadExprs.{col_at, bracket_with, atom_with, factor_with, prod_with, signed_with, sum_with}
use Rattle.sql_rules.specs.ReadExprs.{expr_at, int_at, more_ints_at, ints_at}
use Rattle.sql_rules.specs.ReadConds.{between_with, range_with, null_at, said_with, chord_behind, chord_at, area_with}
use Rattle.sql_rules.specs.ReadConds.{group_with, other_with, pred_with, neg_with, conj_with, any_with, cond_at}
use Rattle.sql_rules.specs.ReadQueries.{argument_at, counted_at, plain_at, high_at, kind_at, as_at, item_at}
use Rattle.sql_rules.specs.ReadQueries.{item_list_at, items_at, alias_at, table_at, second_at, where_at, cols_at}
use Rattle.sql_rules.specs.ReadQueries.{group_at, way_at, sorted_at, order_at, limit_at}
use Rattle.sql_rules.specs.Trees.{from_at, front_at, query_at, query_of, tree_of}
use Rattle.bind_rules.specs.Mentions.{columns_of, mentions_of_cond}
use Rattle.bind_rules.specs.Widths.{width_of, exprs_of}
use Rattle.bind_rules.specs.Names.{unknown_by}
use Rattle.bind_rules.specs.Forms.{area_form}
use Rattle.bind_rules.specs.Checks.{too_wide_by, order_by}
use Rattle.bind_rules.specs.IdTests.{lone_of}
use Rattle.bind_rules.specs.Bounds.{expr_by}
use Rattle.child_bind_rules.specs.ChildBinding.{child_query}
use Rattle.bind_rules.proofs.Worked.{written, bindings}
use Rattle.child_bind_rules.proofs.examples.bound_to_pairs.Goals as goal

pub returns-clause-join : goal.returns-clause-join
unfolding keyword_of tokens_from too_deep many col_at bracket_with atom_with factor_with prod_with signed_with
    sum_with expr_at int_at more_ints_at ints_at between_with range_with null_at said_with chord_behind chord_at
    area_with group_with other_with pred_with neg_with conj_with any_with cond_at argument_at counted_at plain_at
    high_at kind_at as_at item_at item_list_at items_at alias_at table_at second_at where_at cols_at group_at way_at
    sorted_at order_at limit_at from_at front_at query_at query_of tree_of columns_of mentions_of_cond
    width_of exprs_of unknown_by area_form too_wide_by order_by lone_of expr_by child_query
returns-clause-join c = simp (written, bindings)

pub returns-clause-order : goal.returns-clause-order
unfolding keyword_of tokens_from too_deep many col_at bracket_with atom_with factor_with prod_with signed_with
    sum_with expr_at int_at more_ints_at ints_at between_with range_with null_at said_with chord_behind chord_at
    area_with group_with other_with pred_with neg_with conj_with any_with cond_at argument_at counted_at plain_at
    high_at kind_at as_at item_at item_list_at items_at alias_at table_at second_at where_at cols_at group_at way_at
    sorted_at order_at limit_at from_at front_at query_at query_of tree_of columns_of mentions_of_cond
    width_of exprs_of unknown_by area_form too_wide_by order_by lone_of expr_by child_query
returns-clause-order c = simp written

pub returns-clause-area : goal.returns-clause-area
unfolding keyword_of tokens_from too_deep many col_at bracket_with atom_with factor_with prod_with signed_with
    sum_with expr_at int_at more_ints_at ints_at between_with range_with null_at said_with chord_behind chord_at
    area_with group_with other_with pred_with neg_with conj_with any_with cond_at argument_at counted_at plain_at
    high_at kind_at as_at item_at item_list_at items_at alias_at table_at second_at where_at cols_at group_at way_at
    sorted_at order_at limit_at from_at front_at query_at query_of tree_of columns_of mentions_of_cond
    width_of exprs_of unknown_by area_form too_wide_by order_by lone_of expr_by child_query
returns-clause-area c = simp (written, bindings)
