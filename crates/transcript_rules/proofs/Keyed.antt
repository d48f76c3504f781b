-- How an expression over keys that is made of its parts is written in a merge.
use Rattle.std.proofs.Common.{◌≡◌, ℤ, sym, ap, ◌∙◌}
use Rattle.sql_bound.specs.declared.expr.BoundAtom.TheFolds.{fold-BoundAtom, fold-BoundExpr, fold-roll-BoundAtom}
use Rattle.sql_bound.specs.declared.expr.BoundAtom.TheFolds.{fold-roll-BoundFactor, fold-roll-BoundProd}
use Rattle.sql_bound.specs.declared.expr.BoundAtom.TheFolds.{fold-roll-BoundSigned, fold-roll-BoundExpr}
use Rattle.sql_bound.specs.declared.expr.BoundAtom.TheOpen.{BoundAtom-F, BoundExpr-F, BoundFactor-F, BoundProd-F}
use Rattle.sql_bound.specs.declared.expr.BoundAtom.TheOpen.{BoundSigned-F}
use Rattle.sql_bound.specs.declared.expr.BoundAtom.TheVariants as atom
use Rattle.sql_bound.specs.declared.expr.BoundCol.{BoundCol}
use Rattle.sql_bound.specs.declared.expr.BoundExpr.{BoundExpr}

pub keyed_int : {A B C D E : Type 0} (f : BoundAtom-F A B C D E → A) (g : BoundExpr-F A B C D E → B)
    (h : BoundFactor-F A B C D E → C) (j : BoundProd-F A B C D E → D) (k : BoundSigned-F A B C D E → E) (n : ℤ)
    → fold-BoundAtom A B C D E f g h j k (atom.Int n) ≡ f (BoundAtom-F.Int n)
keyed_int {A} {B} {C} {D} {E} f g h j k n = ap (fold-BoundAtom A B C D E f g h j k) (sym (atom.rolls-Int n))
    ∙ fold-roll-BoundAtom A B C D E f g h j k (BoundAtom-F.Int n)

pub keyed_col : {A B C D E : Type 0} (f : BoundAtom-F A B C D E → A) (g : BoundExpr-F A B C D E → B)
    (h : BoundFactor-F A B C D E → C) (j : BoundProd-F A B C D E → D) (k : BoundSigned-F A B C D E → E) (c : BoundCol)
    → fold-BoundAtom A B C D E f g h j k (atom.Col c) ≡ f (BoundAtom-F.Col c)
keyed_col {A} {B} {C} {D} {E} f g h j k c = ap (fold-BoundAtom A B C D E f g h j k) (sym (atom.rolls-Col c))
    ∙ fold-roll-BoundAtom A B C D E f g h j k (BoundAtom-F.Col c)

pub keyed_bracket : {A B C D E : Type 0} (f : BoundAtom-F A B C D E → A) (g : BoundExpr-F A B C D E → B)
    (h : BoundFactor-F A B C D E → C) (j : BoundProd-F A B C D E → D) (k : BoundSigned-F A B C D E → E) (e : BoundExpr)
    → fold-BoundAtom A B C D E f g h j k (atom.Bracket e)
    ≡ f (BoundAtom-F.Bracket (fold-BoundExpr A B C D E f g h j k e))
keyed_bracket {A} {B} {C} {D} {E} f g h j k e = ap (fold-BoundAtom A B C D E f g h j k) (sym (atom.rolls-Bracket e))
    ∙ fold-roll-BoundAtom A B C D E f g h j k (BoundAtom-F.Bracket e)

-- the equations that compute what is written of an expression over keys
pub ruleset key_rules = (
  keyed_int,
  keyed_col,
  keyed_bracket,
  fold-roll-BoundFactor,
  fold-roll-BoundProd,
  fold-roll-BoundSigned,
  fold-roll-BoundExpr,
)
