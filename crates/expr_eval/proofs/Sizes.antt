-- The parts of a tree are less deep than the tree: why the recursion ends.
use Rattle.std.proofs.Common.{◌≡◌, ℕ, ◌<◌, List, length, get_or, arith}
use Rattle.sql_bound.specs.declared.cond.BoundAll.{BoundAll, out-BoundAll, size-BoundAll, size_is-BoundAll}
use Rattle.sql_bound.specs.declared.cond.BoundAny.{BoundAny, out-BoundAny, size-BoundAny, size_is-BoundAny}
use Rattle.sql_bound.specs.declared.cond.BoundCond.{BoundCond, size-BoundCond}
use Rattle.sql_bound.specs.declared.expr.BoundExpr.{BoundExpr, out-BoundExpr, size-BoundExpr, size_is-BoundExpr}
use Rattle.sql_bound.specs.declared.expr.BoundFactor.{BoundFactor, size-BoundFactor}
use Rattle.sql_bound.specs.declared.expr.BoundProd.{BoundProd, out-BoundProd, size-BoundProd, size_is-BoundProd}
use Rattle.sql_bound.specs.declared.expr.BoundSigned.{BoundSigned, out-BoundSigned, size-BoundSigned}
use Rattle.sql_bound.specs.declared.expr.BoundSigned.{size_is-BoundSigned}
use Rattle.expr_eval.proofs.Steps.{item_depth}

-- a further product of a sum
pub product_depth : (e : BoundExpr) (xs : List BoundSigned) (i : ℕ) (s : BoundSigned) → i < length xs
    → s ≡ get_or xs i s → xs ≡ (out-BoundExpr e).rest → size-BoundProd (out-BoundSigned s).prod < size-BoundExpr e
product_depth e xs i s low is same =
    let item = item_depth size-BoundSigned xs (out-BoundExpr e).rest i s low is same in
    omega (arith, item, size_is-BoundSigned s, size_is-BoundExpr e)

-- a further factor of a product
pub factor_depth : (p : BoundProd) (xs : List BoundFactor) (i : ℕ) (f : BoundFactor) → i < length xs
    → f ≡ get_or xs i f → xs ≡ (out-BoundProd p).rest → size-BoundFactor f < size-BoundProd p
factor_depth p xs i f low is same =
    let item = item_depth size-BoundFactor xs (out-BoundProd p).rest i f low is same in
    omega (arith, item, size_is-BoundProd p)

-- a further conjunction of a disjunction
pub conjunction_depth : (a : BoundAny) (xs : List BoundAll) (i : ℕ) (x : BoundAll) → i < length xs → x ≡ get_or xs i x
    → xs ≡ (out-BoundAny a).rest → size-BoundAll x < size-BoundAny a
conjunction_depth a xs i x low is same =
    let item = item_depth size-BoundAll xs (out-BoundAny a).rest i x low is same in
    omega (arith, item, size_is-BoundAny a)

-- a further condition of a conjunction
pub condition_depth : (a : BoundAll) (xs : List BoundCond) (i : ℕ) (x : BoundCond) → i < length xs → x ≡ get_or xs i x
    → xs ≡ (out-BoundAll a).rest → size-BoundCond x < size-BoundAll a
condition_depth a xs i x low is same =
    let item = item_depth size-BoundCond xs (out-BoundAll a).rest i x low is same in
    omega (arith, item, size_is-BoundAll a)
