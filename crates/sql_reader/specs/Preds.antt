-- Predicates that begin with an expression.
use Rattle.sql_tree.specs.declared.cond.Pred.{Pred}
use Rattle.sql_tree.specs.declared.expr.Expr.{Expr}
use Rattle.sql_rules.specs.Readers.{Reader, ◌>>=◌}
use Rattle.sql_rules.specs.ReadConds.{said_with}

-- an expression, and the rest of its predicate
abbrev pub valued_at : Reader Expr → Reader Pred
valued_at expr ts = expr ts >>= λ value us. said_with expr value us
