-- Written conditions with columns in place of names. A chord test cannot be part of a bound condition, nor can a
-- condition that contains one, nor an area test whose arguments do not fit.
use Rattle.std.specs.Prelude.{Bool, List, [], ◌∷◌, Option, None, Some, option_to_list}
use Rattle.std.specs.List.{flat_map}
use Rattle.sql_bound.specs.declared.area.AreaTest.{AreaTest}
use Rattle.sql_bound.specs.declared.cond.BoundAll.{BoundAll, roll-BoundAll}
use Rattle.sql_bound.specs.declared.cond.BoundAny.{BoundAny, roll-BoundAny}
use Rattle.sql_bound.specs.declared.cond.BoundCond.{BoundCond, roll-BoundCond}
use Rattle.sql_bound.specs.declared.cond.BoundPred.{BoundPred}
use Rattle.sql_bound.specs.declared.cond.BoundPred.TheVariants as bound
use Rattle.sql_tree.specs.declared.cond.Cond.{Cond}
use Rattle.sql_tree.specs.declared.cond.Conj.{Conj}
use Rattle.sql_tree.specs.declared.cond.Neg.{Neg}
use Rattle.sql_tree.specs.declared.cond.Pred.{Pred}
use Rattle.sql_tree.specs.declared.cond.Pred.TheFolds.{fold-Cond, fold-Conj, fold-Neg, fold-Pred}
use Rattle.sql_tree.specs.declared.cond.Pred.TheOpen.{Cond-F, Conj-F, Neg-F, Pred-F}
use Rattle.bind_rules.specs.Forms.{values_of}
use Rattle.bind_rules.specs.Areas.{area_test}
use Rattle.bind_rules.specs.Bounds.{Meaning, expr_by}
use Rattle.bind_rules.specs.Conjuncts.{where_conjuncts}

-- an area test as a predicate
abbrev pub area_pred : Option AreaTest → Option BoundPred
area_pred None = None
area_pred (Some t) = Some (bound.Area t)

-- a condition in brackets
abbrev pub bracket : Option BoundAny → Option BoundPred
bracket None = None
bracket (Some c) = Some (bound.Bracket c)

-- a layer of a condition whose parts are bound
abbrev pub Bound-F : (Type 0 → Type 0 → Type 0 → Type 0 → Type 0) → Type 0
Bound-F F = F (Option BoundPred) (Option BoundAny) (Option BoundAll) (Option BoundCond)

-- the bound predicate, given the bound condition inside it
abbrev pub bound_at_pred : Meaning → Bound-F Pred-F → Option BoundPred
bound_at_pred means (Pred-F.Bracket c) = bracket c
bound_at_pred means (Pred-F.Compare left op right) = Some (bound.Compare (expr_by means left) op (expr_by means right))
bound_at_pred means (Pred-F.Between without value low high) =
    Some (bound.Between without (expr_by means value) (expr_by means low) (expr_by means high))
bound_at_pred means (Pred-F.Among without value list) =
    Some (bound.Among without (expr_by means value) (values_of list))
bound_at_pred means (Pred-F.IsNull without value) = Some (bound.IsNull without (expr_by means value))
bound_at_pred means (Pred-F.Area kind span args) = area_pred (area_test kind (values_of args))
bound_at_pred means (Pred-F.Chord left right strict n) = None

-- the first and the others as one list, if all are there
abbrev pub before : {A : Type 0} → Option A → Option (List A) → Option (List A)
before (Some x) (Some xs) = Some (x ∷ xs)
before _ _ = None

-- all elements, if each is there
abbrev pub all_there : {A : Type 0} → List (Option A) → Option (List A)
all_there [] = Some []
all_there (x ∷ xs) = before x (all_there xs)

-- the conjunction of the parts, if all are there
abbrev pub conj_by : Option BoundCond → Option (List BoundCond) → Option BoundAll
conj_by (Some c) (Some cs) = Some (roll-BoundAll (record { first = c; rest = cs }))
conj_by _ _ = None

-- the condition of the parts, if all are there
abbrev pub any_by : Option BoundAll → Option (List BoundAll) → Option BoundAny
any_by (Some c) (Some cs) = Some (roll-BoundAny (record { first = c; rest = cs }))
any_by _ _ = None

-- the predicate, with or without NOT
abbrev pub neg_by : Bool → Option BoundPred → Option BoundCond
neg_by without None = None
neg_by without (Some p) = Some (roll-BoundCond (record { not = without; pred = p }))

-- the bound predicate with or without NOT, given the bound predicate
abbrev pub bound_at_neg : Bound-F Neg-F → Option BoundCond
bound_at_neg n = neg_by n.not n.pred

-- the bound conjunction, given its bound parts
abbrev pub bound_at_conj : Bound-F Conj-F → Option BoundAll
bound_at_conj c = conj_by c.first (all_there c.rest)

-- the bound condition, given its bound parts
abbrev pub bound_at_cond : Bound-F Cond-F → Option BoundAny
bound_at_cond c = any_by c.first (all_there c.rest)

-- the bound predicate
unfoldable pub bound_pred : Meaning → Pred → Option BoundPred
bound_pred means =
    fold-Pred (Option BoundPred) (Option BoundAny) (Option BoundAll) (Option BoundCond) (bound_at_pred means) bound_at_cond
    bound_at_conj bound_at_neg

-- the bound condition
unfoldable pub bound_any : Meaning → Cond → Option BoundAny
bound_any means =
    fold-Cond (Option BoundPred) (Option BoundAny) (Option BoundAll) (Option BoundCond) (bound_at_pred means) bound_at_cond
    bound_at_conj bound_at_neg

-- the bound conjunction
unfoldable pub bound_all : Meaning → Conj → Option BoundAll
bound_all means =
    fold-Conj (Option BoundPred) (Option BoundAny) (Option BoundAll) (Option BoundCond) (bound_at_pred means) bound_at_cond
    bound_at_conj bound_at_neg

-- the bound predicate with or without NOT
unfoldable pub bound_cond : Meaning → Neg → Option BoundCond
bound_cond means =
    fold-Neg (Option BoundPred) (Option BoundAny) (Option BoundAll) (Option BoundCond) (bound_at_pred means) bound_at_cond
    bound_at_conj bound_at_neg

-- the bound conjunct, if it can be part of a bound condition
abbrev pub bound_conjunct : Meaning → Neg → List BoundCond
bound_conjunct means n = option_to_list (bound_cond means n)

-- the bound conjuncts of WHERE, without the chord test
abbrev pub conds_in : Meaning → Option Cond → List BoundCond
conds_in means w = flat_map (bound_conjunct means) (where_conjuncts w)
