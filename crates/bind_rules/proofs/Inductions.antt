-- Inductions over written expressions and conditions.
use Rattle.std.proofs.Common.{◌≡◌, ℤ, Bool, List, [], ◌∷◌, map, sym, subst}
use Rattle.std.specs.List.{AllByRecursion as Each}
use Rattle.sql_token.specs.declared.token.Span.{Span}
use Rattle.sql_tree.specs.declared.cond.AreaKind.{AreaKind}
use Rattle.sql_tree.specs.declared.cond.Cmp.{Cmp}
use Rattle.sql_tree.specs.declared.cond.Cond.{Cond, roll-Cond}
use Rattle.sql_tree.specs.declared.cond.Conj.{Conj, roll-Conj}
use Rattle.sql_tree.specs.declared.cond.IntList.{IntList}
use Rattle.sql_tree.specs.declared.cond.Neg.{Neg, roll-Neg}
use Rattle.sql_tree.specs.declared.cond.Pred.{Pred, roll-Pred, map-Pred}
use Rattle.sql_tree.specs.declared.cond.Pred.TheFolds.{ind-Cond, ind-Conj, ind-Neg, ind-Pred}
use Rattle.sql_tree.specs.declared.cond.Pred.TheOpen.{Cond-F, Conj-F, Neg-F, Pred-F}
use Rattle.sql_tree.specs.declared.cond.Pred.TheVariants as pred
use Rattle.sql_tree.specs.declared.expr.Atom.{Atom, roll-Atom, map-Atom}
use Rattle.sql_tree.specs.declared.expr.Atom.TheFolds.{ind-Expr}
use Rattle.sql_tree.specs.declared.expr.Atom.TheOpen.{Atom-F, Expr-F, Factor-F, Prod-F, Signed-F}
use Rattle.sql_tree.specs.declared.expr.Atom.TheVariants as atom
use Rattle.sql_tree.specs.declared.expr.Expr.{Expr, roll-Expr}
use Rattle.sql_tree.specs.declared.expr.Factor.{Factor, roll-Factor}
use Rattle.sql_tree.specs.declared.expr.Prod.{Prod, roll-Prod}
use Rattle.sql_tree.specs.declared.expr.Signed.{Signed, roll-Signed}
use Rattle.sql_tree.specs.declared.name.Col.{Col}
use Rattle.sql_tree.specs.declared.name.Name.{Name}

-- elements, each with what holds of it
abbrev With : {X : Type 0} → (X → Type 0) → Type 0
With {X} P = (x : X) × P x

each_of : {X : Type 0} (P : X → Type 0) (xs : List ((x : X) × P x)) → Each P (map (λ e. e.0) xs)
each_of P [] = tt
each_of P (x ∷ xs) = (x.1, each_of P xs)

atom_step : (PA : Atom → Type 0) (PE : Expr → Type 0) (PF : Factor → Type 0) (PP : Prod → Type 0) (PS : Signed → Type 0) → ((n : ℤ) → PA (atom.Int n)) → ((c : Col) → PA (atom.Col c)) → ((e : Expr) → PE e → PA (atom.Bracket e)) → (x : Atom-F Atom Expr Factor Prod Signed) (y : Atom-F (With PA) (With PE) (With PF) (With PP) (With PS)) → map-Atom (With PA) (With PE) (With PF) (With PP) (With PS) Atom Expr Factor Prod Signed (λ e. e.0) (λ e. e.0) (λ e. e.0) (λ e. e.0) (λ e. e.0) y ≡ x → PA (roll-Atom x)
atom_step PA PE PF PP PS on_int on_col on_bracket x (Atom-F.Int n) is = subst (λ z. PA (roll-Atom z)) is (subst PA (sym (atom.rolls-Int n)) (on_int n))
atom_step PA PE PF PP PS on_int on_col on_bracket x (Atom-F.Col c) is = subst (λ z. PA (roll-Atom z)) is (subst PA (sym (atom.rolls-Col c)) (on_col c))
atom_step PA PE PF PP PS on_int on_col on_bracket x (Atom-F.Bracket e) is = subst (λ z. PA (roll-Atom z)) is (subst PA (sym (atom.rolls-Bracket e.0)) (on_bracket e.0 e.1))

-- what holds of each layer whose parts it holds of holds of every expression
pub expr_induction : (PA : Atom → Type 0) (PE : Expr → Type 0) (PF : Factor → Type 0) (PP : Prod → Type 0) (PS : Signed → Type 0) → ((n : ℤ) → PA (atom.Int n)) → ((c : Col) → PA (atom.Col c)) → ((e : Expr) → PE e → PA (atom.Bracket e)) → ((x : Factor-F Atom Expr Factor Prod Signed) → PA x.atom → PF (roll-Factor x)) → ((x : Prod-F Atom Expr Factor Prod Signed) → PF x.first → Each PF x.rest → PP (roll-Prod x)) → ((x : Signed-F Atom Expr Factor Prod Signed) → PP x.prod → PS (roll-Signed x)) → ((x : Expr-F Atom Expr Factor Prod Signed) → PP x.first → Each PS x.rest → PE (roll-Expr x)) → (e : Expr) → PE e
expr_induction PA PE PF PP PS on_int on_col on_bracket on_factor on_prod on_signed on_expr =
    ind-Expr PA PE PF PP PS
    (λ x y is. atom_step PA PE PF PP PS on_int on_col on_bracket x y is)
    (λ x y is. subst (λ z. PE (roll-Expr z)) is (on_expr (record { first = y.first.0; rest = map (λ e. e.0) y.rest }) y.first.1 (each_of PS y.rest)))
    (λ x y is. subst (λ z. PF (roll-Factor z)) is (on_factor (record { minus = y.minus; atom = y.atom.0 }) y.atom.1))
    (λ x y is. subst (λ z. PP (roll-Prod z)) is (on_prod (record { first = y.first.0; rest = map (λ e. e.0) y.rest }) y.first.1 (each_of PF y.rest)))
    (λ x y is. subst (λ z. PS (roll-Signed z)) is (on_signed (record { minus = y.minus; prod = y.prod.0 }) y.prod.1))

pred_step : (PP : Pred → Type 0) (PC : Cond → Type 0) (PJ : Conj → Type 0) (PN : Neg → Type 0) → ((c : Cond) → PC c → PP (pred.Bracket c)) → ((left : Expr) (op : Cmp) (right : Expr) → PP (pred.Compare left op right)) → ((without : Bool) (value low high : Expr) → PP (pred.Between without value low high)) → ((without : Bool) (value : Expr) (list : IntList) → PP (pred.Among without value list)) → ((without : Bool) (value : Expr) → PP (pred.IsNull without value)) → ((kind : AreaKind) (span : Span) (args : IntList) → PP (pred.Area kind span args)) → ((left right : Name) (strict : Bool) (n : ℤ) → PP (pred.Chord left right strict n)) → (x : Pred-F Pred Cond Conj Neg) (y : Pred-F (With PP) (With PC) (With PJ) (With PN)) → map-Pred (With PP) (With PC) (With PJ) (With PN) Pred Cond Conj Neg (λ e. e.0) (λ e. e.0) (λ e. e.0) (λ e. e.0) y ≡ x → PP (roll-Pred x)
pred_step PP PC PJ PN on_bracket on_compare on_between on_among on_null on_area on_chord x (Pred-F.Bracket c) is = subst (λ z. PP (roll-Pred z)) is (subst PP (sym (pred.rolls-Bracket c.0)) (on_bracket c.0 c.1))
pred_step PP PC PJ PN on_bracket on_compare on_between on_among on_null on_area on_chord x (Pred-F.Compare left op right) is = subst (λ z. PP (roll-Pred z)) is (subst PP (sym (pred.rolls-Compare left op right)) (on_compare left op right))
pred_step PP PC PJ PN on_bracket on_compare on_between on_among on_null on_area on_chord x (Pred-F.Between without value low high) is = subst (λ z. PP (roll-Pred z)) is (subst PP (sym (pred.rolls-Between without value low high)) (on_between without value low high))
pred_step PP PC PJ PN on_bracket on_compare on_between on_among on_null on_area on_chord x (Pred-F.Among without value list) is = subst (λ z. PP (roll-Pred z)) is (subst PP (sym (pred.rolls-Among without value list)) (on_among without value list))
pred_step PP PC PJ PN on_bracket on_compare on_between on_among on_null on_area on_chord x (Pred-F.IsNull without value) is = subst (λ z. PP (roll-Pred z)) is (subst PP (sym (pred.rolls-IsNull without value)) (on_null without value))
pred_step PP PC PJ PN on_bracket on_compare on_between on_among on_null on_area on_chord x (Pred-F.Area kind span args) is = subst (λ z. PP (roll-Pred z)) is (subst PP (sym (pred.rolls-Area kind span args)) (on_area kind span args))
pred_step PP PC PJ PN on_bracket on_compare on_between on_among on_null on_area on_chord x (Pred-F.Chord left right strict n) is = subst (λ z. PP (roll-Pred z)) is (subst PP (sym (pred.rolls-Chord left right strict n)) (on_chord left right strict n))

-- and the same of conditions
pub cond_induction : (PP : Pred → Type 0) (PC : Cond → Type 0) (PJ : Conj → Type 0) (PN : Neg → Type 0) → ((c : Cond) → PC c → PP (pred.Bracket c)) → ((left : Expr) (op : Cmp) (right : Expr) → PP (pred.Compare left op right)) → ((without : Bool) (value low high : Expr) → PP (pred.Between without value low high)) → ((without : Bool) (value : Expr) (list : IntList) → PP (pred.Among without value list)) → ((without : Bool) (value : Expr) → PP (pred.IsNull without value)) → ((kind : AreaKind) (span : Span) (args : IntList) → PP (pred.Area kind span args)) → ((left right : Name) (strict : Bool) (n : ℤ) → PP (pred.Chord left right strict n)) → ((x : Neg-F Pred Cond Conj Neg) → PP x.pred → PN (roll-Neg x)) → ((x : Conj-F Pred Cond Conj Neg) → PN x.first → Each PN x.rest → PJ (roll-Conj x)) → ((x : Cond-F Pred Cond Conj Neg) → PJ x.first → Each PJ x.rest → PC (roll-Cond x)) → (c : Cond) → PC c
cond_induction PP PC PJ PN on_bracket on_compare on_between on_among on_null on_area on_chord on_neg on_conj on_cond =
    ind-Cond PP PC PJ PN
    (λ x y is. pred_step PP PC PJ PN on_bracket on_compare on_between on_among on_null on_area on_chord x y is)
    (λ x y is. subst (λ z. PC (roll-Cond z)) is (on_cond (record { first = y.first.0; rest = map (λ e. e.0) y.rest }) y.first.1 (each_of PJ y.rest)))
    (λ x y is. subst (λ z. PJ (roll-Conj z)) is (on_conj (record { first = y.first.0; rest = map (λ e. e.0) y.rest }) y.first.1 (each_of PN y.rest)))
    (λ x y is. subst (λ z. PN (roll-Neg z)) is (on_neg (record { not = y.not; pred = y.pred.0 }) y.pred.1))

-- of conjunctions
pub conj_induction : (PP : Pred → Type 0) (PC : Cond → Type 0) (PJ : Conj → Type 0) (PN : Neg → Type 0) → ((c : Cond) → PC c → PP (pred.Bracket c)) → ((left : Expr) (op : Cmp) (right : Expr) → PP (pred.Compare left op right)) → ((without : Bool) (value low high : Expr) → PP (pred.Between without value low high)) → ((without : Bool) (value : Expr) (list : IntList) → PP (pred.Among without value list)) → ((without : Bool) (value : Expr) → PP (pred.IsNull without value)) → ((kind : AreaKind) (span : Span) (args : IntList) → PP (pred.Area kind span args)) → ((left right : Name) (strict : Bool) (n : ℤ) → PP (pred.Chord left right strict n)) → ((x : Neg-F Pred Cond Conj Neg) → PP x.pred → PN (roll-Neg x)) → ((x : Conj-F Pred Cond Conj Neg) → PN x.first → Each PN x.rest → PJ (roll-Conj x)) → ((x : Cond-F Pred Cond Conj Neg) → PJ x.first → Each PJ x.rest → PC (roll-Cond x)) → (c : Conj) → PJ c
conj_induction PP PC PJ PN on_bracket on_compare on_between on_among on_null on_area on_chord on_neg on_conj on_cond =
    ind-Conj PP PC PJ PN
    (λ x y is. pred_step PP PC PJ PN on_bracket on_compare on_between on_among on_null on_area on_chord x y is)
    (λ x y is. subst (λ z. PC (roll-Cond z)) is (on_cond (record { first = y.first.0; rest = map (λ e. e.0) y.rest }) y.first.1 (each_of PJ y.rest)))
    (λ x y is. subst (λ z. PJ (roll-Conj z)) is (on_conj (record { first = y.first.0; rest = map (λ e. e.0) y.rest }) y.first.1 (each_of PN y.rest)))
    (λ x y is. subst (λ z. PN (roll-Neg z)) is (on_neg (record { not = y.not; pred = y.pred.0 }) y.pred.1))

-- of predicates with or without NOT
pub neg_induction : (PP : Pred → Type 0) (PC : Cond → Type 0) (PJ : Conj → Type 0) (PN : Neg → Type 0) → ((c : Cond) → PC c → PP (pred.Bracket c)) → ((left : Expr) (op : Cmp) (right : Expr) → PP (pred.Compare left op right)) → ((without : Bool) (value low high : Expr) → PP (pred.Between without value low high)) → ((without : Bool) (value : Expr) (list : IntList) → PP (pred.Among without value list)) → ((without : Bool) (value : Expr) → PP (pred.IsNull without value)) → ((kind : AreaKind) (span : Span) (args : IntList) → PP (pred.Area kind span args)) → ((left right : Name) (strict : Bool) (n : ℤ) → PP (pred.Chord left right strict n)) → ((x : Neg-F Pred Cond Conj Neg) → PP x.pred → PN (roll-Neg x)) → ((x : Conj-F Pred Cond Conj Neg) → PN x.first → Each PN x.rest → PJ (roll-Conj x)) → ((x : Cond-F Pred Cond Conj Neg) → PJ x.first → Each PJ x.rest → PC (roll-Cond x)) → (n : Neg) → PN n
neg_induction PP PC PJ PN on_bracket on_compare on_between on_among on_null on_area on_chord on_neg on_conj on_cond =
    ind-Neg PP PC PJ PN
    (λ x y is. pred_step PP PC PJ PN on_bracket on_compare on_between on_among on_null on_area on_chord x y is)
    (λ x y is. subst (λ z. PC (roll-Cond z)) is (on_cond (record { first = y.first.0; rest = map (λ e. e.0) y.rest }) y.first.1 (each_of PJ y.rest)))
    (λ x y is. subst (λ z. PJ (roll-Conj z)) is (on_conj (record { first = y.first.0; rest = map (λ e. e.0) y.rest }) y.first.1 (each_of PN y.rest)))
    (λ x y is. subst (λ z. PN (roll-Neg z)) is (on_neg (record { not = y.not; pred = y.pred.0 }) y.pred.1))

-- of predicates
pub pred_induction : (PP : Pred → Type 0) (PC : Cond → Type 0) (PJ : Conj → Type 0) (PN : Neg → Type 0) → ((c : Cond) → PC c → PP (pred.Bracket c)) → ((left : Expr) (op : Cmp) (right : Expr) → PP (pred.Compare left op right)) → ((without : Bool) (value low high : Expr) → PP (pred.Between without value low high)) → ((without : Bool) (value : Expr) (list : IntList) → PP (pred.Among without value list)) → ((without : Bool) (value : Expr) → PP (pred.IsNull without value)) → ((kind : AreaKind) (span : Span) (args : IntList) → PP (pred.Area kind span args)) → ((left right : Name) (strict : Bool) (n : ℤ) → PP (pred.Chord left right strict n)) → ((x : Neg-F Pred Cond Conj Neg) → PP x.pred → PN (roll-Neg x)) → ((x : Conj-F Pred Cond Conj Neg) → PN x.first → Each PN x.rest → PJ (roll-Conj x)) → ((x : Cond-F Pred Cond Conj Neg) → PJ x.first → Each PJ x.rest → PC (roll-Cond x)) → (p : Pred) → PP p
pred_induction PP PC PJ PN on_bracket on_compare on_between on_among on_null on_area on_chord on_neg on_conj on_cond =
    ind-Pred PP PC PJ PN
    (λ x y is. pred_step PP PC PJ PN on_bracket on_compare on_between on_among on_null on_area on_chord x y is)
    (λ x y is. subst (λ z. PC (roll-Cond z)) is (on_cond (record { first = y.first.0; rest = map (λ e. e.0) y.rest }) y.first.1 (each_of PJ y.rest)))
    (λ x y is. subst (λ z. PJ (roll-Conj z)) is (on_conj (record { first = y.first.0; rest = map (λ e. e.0) y.rest }) y.first.1 (each_of PN y.rest)))
    (λ x y is. subst (λ z. PN (roll-Neg z)) is (on_neg (record { not = y.not; pred = y.pred.0 }) y.pred.1))
