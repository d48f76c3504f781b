-- The mentions of the parts of a query, and their expressions.
use Rattle.std.specs.Prelude.{◌++◌, map}
use Rattle.std.specs.List.{flat_map}
use Rattle.sql_tree.specs.declared.cond.Conj.{Conj}
use Rattle.sql_tree.specs.declared.cond.Neg.{Neg}
use Rattle.sql_tree.specs.declared.cond.Pred.{Pred}
use Rattle.sql_tree.specs.declared.cond.Pred.TheFolds.{fold-Conj, fold-Neg, fold-Pred}
use Rattle.sql_tree.specs.declared.query.Item.{Item}
use Rattle.sql_tree.specs.declared.query.Query.{Query}
use Rattle.bind_rules.specs.Mentions.{Cols, Mentions, Table, expr_of, item_exprs, mentioned, mentions_at_cond, mentions_at_conj, mentions_at_neg, mentions_at_pred, mentions_of_where}
use Rattle.bind_rules.specs.Columns.{tables}
use Rattle.bind_rules.specs.Names.{plain_columns}

-- the columns of an item outside of an aggregate
abbrev pub plain_columns_of : Item → Cols
plain_columns_of i = plain_columns i.what

-- what an item mentions
abbrev pub item_mentions : Item → Mentions
item_mentions i = flat_map mentioned (expr_of i.what)

-- what a conjunction mentions
unfoldable pub conj_mentions : Conj → Mentions
conj_mentions =
    fold-Conj Mentions Mentions Mentions Mentions mentions_at_pred mentions_at_cond mentions_at_conj mentions_at_neg

-- what a predicate with or without NOT mentions
unfoldable pub neg_mentions : Neg → Mentions
neg_mentions =
    fold-Neg Mentions Mentions Mentions Mentions mentions_at_pred mentions_at_cond mentions_at_conj mentions_at_neg

-- what a predicate mentions
unfoldable pub pred_mentions : Pred → Mentions
pred_mentions =
    fold-Pred Mentions Mentions Mentions Mentions mentions_at_pred mentions_at_cond mentions_at_conj mentions_at_neg

-- what a query mentions before WHERE
abbrev pub mentions_before_where : Query → Mentions
mentions_before_where q = flat_map mentioned (item_exprs q) ++ map (λ t. Table t.name) (tables q)

-- what a query mentions before GROUP BY
abbrev pub mentions_before_group : Query → Mentions
mentions_before_group q = mentions_before_where q ++ mentions_of_where q.cond
