-- A tree made of the parts of another one is that tree.
use Rattle.std.proofs.Common.{◌≡◌, false, List, [], ap, ◌∙◌}
use Rattle.sql_bound.specs.declared.expr.BoundAtom.{BoundAtom}
use Rattle.sql_bound.specs.declared.expr.BoundAtom.TheViews.{roll-out-BoundExpr, roll-out-BoundFactor, roll-out-BoundProd}
use Rattle.sql_bound.specs.declared.expr.BoundAtom.TheViews.{roll-out-BoundSigned}
use Rattle.sql_bound.specs.Trees.{factor, product, sum}
use Rattle.sql_bound.specs.declared.expr.BoundAtom.TheVariants.{Col}
use Rattle.sql_bound.specs.declared.expr.BoundCol.{BoundCol}
use Rattle.sql_bound.specs.declared.expr.BoundExpr.{BoundExpr, out-BoundExpr, roll-BoundExpr}
use Rattle.sql_bound.specs.declared.expr.BoundFactor.{BoundFactor, out-BoundFactor, roll-BoundFactor}
use Rattle.sql_bound.specs.declared.expr.BoundProd.{BoundProd, out-BoundProd, roll-BoundProd}
use Rattle.sql_bound.specs.declared.expr.BoundSigned.{BoundSigned, out-BoundSigned, roll-BoundSigned}
use Rattle.answer_rules.specs.ChunkQueries.{of_col}
use Rattle.sql_bound.specs.declared.cond.BoundAll.{BoundAll, out-BoundAll, roll-BoundAll}
use Rattle.sql_bound.specs.declared.cond.BoundAny.{BoundAny, out-BoundAny, roll-BoundAny}
use Rattle.sql_bound.specs.declared.cond.BoundCond.{BoundCond, out-BoundCond, roll-BoundCond}
use Rattle.sql_bound.specs.declared.cond.BoundPred.{BoundPred}
use Rattle.sql_bound.specs.declared.cond.BoundPred.TheViews.{roll-out-BoundAll, roll-out-BoundAny, roll-out-BoundCond}

pub expr_again : (e : BoundExpr) (first : BoundProd) (rest : List BoundSigned) → first ≡ (out-BoundExpr e).first
    → rest ≡ (out-BoundExpr e).rest → roll-BoundExpr (record { first = first; rest = rest }) ≡ e
expr_again e first rest h k =
    ap (λ x. roll-BoundExpr (record { first = x; rest = rest })) h
    ∙ ap (λ x. roll-BoundExpr (record { first = (out-BoundExpr e).first; rest = x })) k
    ∙ roll-out-BoundExpr e

pub signed_again : (s : BoundSigned) (prod : BoundProd) → prod ≡ (out-BoundSigned s).prod
    → roll-BoundSigned (record { minus = (out-BoundSigned s).minus; prod = prod }) ≡ s
signed_again s prod h =
    ap (λ x. roll-BoundSigned (record { minus = (out-BoundSigned s).minus; prod = x })) h ∙ roll-out-BoundSigned s

pub prod_again : (p : BoundProd) (first : BoundFactor) (rest : List BoundFactor) → first ≡ (out-BoundProd p).first
    → rest ≡ (out-BoundProd p).rest → roll-BoundProd (record { first = first; rest = rest }) ≡ p
prod_again p first rest h k =
    ap (λ x. roll-BoundProd (record { first = x; rest = rest })) h
    ∙ ap (λ x. roll-BoundProd (record { first = (out-BoundProd p).first; rest = x })) k
    ∙ roll-out-BoundProd p

pub factor_again : (f : BoundFactor) (atom : BoundAtom) → atom ≡ (out-BoundFactor f).atom
    → roll-BoundFactor (record { minus = (out-BoundFactor f).minus; atom = atom }) ≡ f
factor_again f atom h =
    ap (λ x. roll-BoundFactor (record { minus = (out-BoundFactor f).minus; atom = x })) h ∙ roll-out-BoundFactor f

pub any_again : (a : BoundAny) (first : BoundAll) (rest : List BoundAll) → first ≡ (out-BoundAny a).first
    → rest ≡ (out-BoundAny a).rest → roll-BoundAny (record { first = first; rest = rest }) ≡ a
any_again a first rest h k =
    ap (λ x. roll-BoundAny (record { first = x; rest = rest })) h
    ∙ ap (λ x. roll-BoundAny (record { first = (out-BoundAny a).first; rest = x })) k
    ∙ roll-out-BoundAny a

pub all_again : (a : BoundAll) (first : BoundCond) (rest : List BoundCond) → first ≡ (out-BoundAll a).first
    → rest ≡ (out-BoundAll a).rest → roll-BoundAll (record { first = first; rest = rest }) ≡ a
all_again a first rest h k =
    ap (λ x. roll-BoundAll (record { first = x; rest = rest })) h
    ∙ ap (λ x. roll-BoundAll (record { first = (out-BoundAll a).first; rest = x })) k
    ∙ roll-out-BoundAll a

pub cond_again : (c : BoundCond) (test : BoundPred) → test ≡ (out-BoundCond c).pred
    → roll-BoundCond (record { not = (out-BoundCond c).not; pred = test }) ≡ c
cond_again c test h =
    ap (λ x. roll-BoundCond (record { not = (out-BoundCond c).not; pred = x })) h ∙ roll-out-BoundCond c

-- a column alone, made of its parts
pub col_alone : (c : BoundCol) (factors : List BoundFactor) (products : List BoundSigned) → factors ≡ [] → products ≡ []
    → roll-BoundExpr (record {
      first = roll-BoundProd (record { first = roll-BoundFactor (record { minus = false; atom = Col c }); rest = factors });
      rest = products;
    }) ≡ of_col c
unfolding factor product sum
col_alone c factors products e f =
    ap (λ x. roll-BoundExpr (record {
      first = roll-BoundProd (record { first = roll-BoundFactor (record { minus = false; atom = Col c }); rest = x });
      rest = products;
    })) e
    ∙ ap (λ x. roll-BoundExpr (record {
      first = roll-BoundProd (record { first = roll-BoundFactor (record { minus = false; atom = Col c }); rest = [] });
      rest = x;
    })) f
