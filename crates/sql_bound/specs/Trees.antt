-- Small bound trees, made of their parts, for worked examples.
use Rattle.std.specs.Prelude.{Bool, false, List, [], ◌∷◌}
use Rattle.sql_bound.specs.declared.expr.BoundAtom.{BoundAtom}
use Rattle.sql_bound.specs.declared.expr.BoundExpr.{BoundExpr, roll-BoundExpr}
use Rattle.sql_bound.specs.declared.expr.BoundFactor.{BoundFactor, roll-BoundFactor}
use Rattle.sql_bound.specs.declared.expr.BoundProd.{BoundProd, roll-BoundProd}
use Rattle.sql_bound.specs.declared.expr.BoundSigned.{BoundSigned, roll-BoundSigned}
use Rattle.sql_bound.specs.declared.cond.BoundAll.{BoundAll, roll-BoundAll}
use Rattle.sql_bound.specs.declared.cond.BoundAny.{BoundAny, roll-BoundAny}
use Rattle.sql_bound.specs.declared.cond.BoundCond.{BoundCond, roll-BoundCond}
use Rattle.sql_bound.specs.declared.cond.BoundPred.{BoundPred}
use Rattle.sql_bound.specs.declared.cond.BoundPred.TheVariants as pred

-- an atom as a factor, negated if `minus` is true
unfoldable pub factor : Bool → BoundAtom → BoundFactor
factor minus a = roll-BoundFactor (record { minus = minus; atom = a })

-- a product of factors
unfoldable pub product : BoundFactor → List BoundFactor → BoundProd
product f fs = roll-BoundProd (record { first = f; rest = fs })

-- a product that is added, or subtracted if `minus` is true
unfoldable pub signed : Bool → BoundProd → BoundSigned
signed minus p = roll-BoundSigned (record { minus = minus; prod = p })

-- a sum of products
unfoldable pub sum : BoundProd → List BoundSigned → BoundExpr
sum p ps = roll-BoundExpr (record { first = p; rest = ps })

-- an atom as an expression
abbrev pub just : BoundAtom → BoundExpr
just a = sum (product (factor false a) []) []

-- a predicate, or its negation if `negated` is true
unfoldable pub cond_of : Bool → BoundPred → BoundCond
cond_of negated p = roll-BoundCond (record { not = negated; pred = p })

-- the conjunction of these conditions
unfoldable pub all_of : BoundCond → List BoundCond → BoundAll
all_of c cs = roll-BoundAll (record { first = c; rest = cs })

-- the disjunction of these conjunctions
unfoldable pub any_of : BoundAll → List BoundAll → BoundAny
any_of a rest = roll-BoundAny (record { first = a; rest = rest })

-- two conditions joined by OR, in brackets
abbrev pub either : BoundCond → BoundCond → BoundCond
either a b = cond_of false (pred.Bracket (any_of (all_of a []) (all_of b [] ∷ [])))

-- two conditions joined by AND, in brackets
abbrev pub both : BoundCond → BoundCond → BoundCond
both a b = cond_of false (pred.Bracket (any_of (all_of a (b ∷ [])) []))
