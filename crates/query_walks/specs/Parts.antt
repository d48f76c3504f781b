-- The expressions of the parts of a query.
use Rattle.std.specs.Prelude.{◌++◌}
use Rattle.sql_tree.specs.declared.cond.Conj.{Conj}
use Rattle.sql_tree.specs.declared.cond.Neg.{Neg}
use Rattle.sql_tree.specs.declared.cond.Pred.{Pred}
use Rattle.sql_tree.specs.declared.cond.Pred.TheFolds.{fold-Conj, fold-Neg, fold-Pred}
use Rattle.sql_tree.specs.declared.query.Item.{Item}
use Rattle.text_rules.specs.Readings.{joined}
use Rattle.bind_rules.specs.Mentions.{expr_of}
use Rattle.bind_rules.specs.Widths.{Exprs, exprs_at_pred}

-- the expressions of an item
abbrev pub exprs_of_item : Item → Exprs
exprs_of_item i = expr_of i.what

-- the expressions of a conjunction
unfoldable pub conj_exprs : Conj → Exprs
conj_exprs =
    fold-Conj Exprs Exprs Exprs Exprs exprs_at_pred (λ c. c.first ++ joined c.rest) (λ c. c.first ++ joined c.rest)
    (λ n. n.pred)

-- the expressions of a predicate with or without NOT
unfoldable pub neg_exprs : Neg → Exprs
neg_exprs =
    fold-Neg Exprs Exprs Exprs Exprs exprs_at_pred (λ c. c.first ++ joined c.rest) (λ c. c.first ++ joined c.rest)
    (λ n. n.pred)

-- the expressions of a predicate
unfoldable pub pred_exprs : Pred → Exprs
pred_exprs =
    fold-Pred Exprs Exprs Exprs Exprs exprs_at_pred (λ c. c.first ++ joined c.rest) (λ c. c.first ++ joined c.rest)
    (λ n. n.pred)
