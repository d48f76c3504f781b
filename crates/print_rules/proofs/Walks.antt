-- What holds of each part of a tree, where it holds of the parts of that part, holds of every tree.
use Rattle.std.proofs.Common.{ℕ, ℤ, suc, zero, ◌≤◌, List, [], ◌∷◌, map, Bool, arith}
use Rattle.std.specs.Bool.{⊤}
use Rattle.sql_token.specs.declared.token.Span.{Span}
use Rattle.sql_tree.specs.declared.cond.AreaKind.{AreaKind}
use Rattle.sql_tree.specs.declared.cond.Cmp.{Cmp}
use Rattle.sql_tree.specs.declared.cond.Cond.{Cond, roll-Cond}
use Rattle.sql_tree.specs.declared.cond.Conj.{Conj, roll-Conj}
use Rattle.sql_tree.specs.declared.cond.IntList.{IntList}
use Rattle.sql_tree.specs.declared.cond.Neg.{Neg, roll-Neg}
use Rattle.sql_tree.specs.declared.cond.Pred.{Pred}
use Rattle.sql_tree.specs.declared.cond.Pred.TheOpen.{Cond-F, Conj-F, Neg-F}
use Rattle.sql_tree.specs.declared.expr.Atom.{Atom}
use Rattle.sql_tree.specs.declared.expr.Atom.TheOpen.{Expr-F, Factor-F, Prod-F, Signed-F}
use Rattle.sql_tree.specs.declared.expr.Expr.{Expr, roll-Expr}
use Rattle.sql_tree.specs.declared.expr.Factor.{Factor, roll-Factor}
use Rattle.sql_tree.specs.declared.expr.Prod.{Prod, roll-Prod}
use Rattle.sql_tree.specs.declared.expr.Signed.{Signed, roll-Signed}
use Rattle.sql_tree.specs.declared.name.Col.{Col}
use Rattle.sql_tree.specs.declared.name.Name.{Name}
use Rattle.sql_rules.proofs.Nesting.{most, nest_atom, nest_expr, nest_factor, nest_prod, nest_signed, nest_pred}
use Rattle.sql_rules.proofs.Nesting.{nest_cond, nest_conj, nest_neg}
use Rattle.sql_rules.proofs.Opened.{nest_bracket_atom, nest_factor_roll, nest_prod_roll, nest_signed_roll}
use Rattle.sql_rules.proofs.Opened.{nest_expr_roll, nest_bracket_pred, nest_neg_roll, nest_conj_roll, nest_cond_roll}
use Rattle.sql_rules.proofs.Opened.{atom_cases, factor_cases, prod_cases, signed_cases, expr_cases, pred_cases}
use Rattle.sql_rules.proofs.Opened.{neg_cases, conj_cases, cond_cases}
use Rattle.sql_tree.specs.declared.cond.Pred.TheVariants as pred
use Rattle.sql_tree.specs.declared.expr.Atom.TheVariants as atom

-- it holds of each of the list
abbrev pub Each : {A : Type 0} → (A → Type 0) → List A → Type 0
Each P [] = ⊤
Each P (x ∷ xs) = P x × Each P xs

-- what holds down to a depth holds of each of a list that is no deeper
each_of : {A : Type 0} (P : A → Type 0) (nest : A → ℕ) (n : ℕ) → ((x : A) → nest x ≤ n → P x) → (xs : List A) → most (map nest xs) ≤ n → Each P xs
each_of P nest n h [] deep = tt
each_of P nest n h (x ∷ xs) deep = (h x (omega arith), each_of P nest n h xs (omega arith))

-- what holds of all holds of each
pub every : {A : Type 0} (P : A → Type 0) → ((x : A) → P x) → (xs : List A) → Each P xs
every P h [] = tt
every P h (x ∷ xs) = (h x, every P h xs)

-- what follows of one follows of each
pub each_map : {A : Type 0} (P Q : A → Type 0) → ((x : A) → P x → Q x) → (xs : List A) → Each P xs → Each Q xs
each_map P Q h [] each = tt
each_map P Q h (x ∷ xs) each = (h x each.0, each_map P Q h xs each.1)

-- the steps, for expressions
pub record ExprSteps (PA : Atom → Type 0) (PF : Factor → Type 0) (PP : Prod → Type 0) (PS : Signed → Type 0) (PE : Expr → Type 0) : Type 0 where
  pub int : (n : ℤ) → PA (atom.Int n)
  pub col : (c : Col) → PA (atom.Col c)
  pub bracket : (e : Expr) → PE e → PA (atom.Bracket e)
  pub factor : (x : Factor-F Atom Expr Factor Prod Signed) → PA x.atom → PF (roll-Factor x)
  pub prod : (x : Prod-F Atom Expr Factor Prod Signed) → PF x.first → Each PF x.rest → PP (roll-Prod x)
  pub signed : (x : Signed-F Atom Expr Factor Prod Signed) → PP x.prod → PS (roll-Signed x)
  pub expr : (x : Expr-F Atom Expr Factor Prod Signed) → PP x.first → Each PS x.rest → PE (roll-Expr x)

module _ {PA : Atom → Type 0} {PF : Factor → Type 0} {PP : Prod → Type 0} {PS : Signed → Type 0} {PE : Expr → Type 0} where
  atom_upto : (n : ℕ) → ExprSteps PA PF PP PS PE → ((e : Expr) → suc (nest_expr e) ≤ n → PE e) → (a : Atom) → nest_atom a ≤ n → PA a
  atom_upto n s h = atom_cases (λ a. nest_atom a ≤ n → PA a) (λ i deep. s.int i) (λ c deep. s.col c) (λ e deep. s.bracket e (h e (rw (← nest_bracket_atom e) deep)))

  factor_upto : (n : ℕ) → ExprSteps PA PF PP PS PE → ((e : Expr) → suc (nest_expr e) ≤ n → PE e) → (f : Factor) → nest_factor f ≤ n → PF f
  factor_upto n s h = factor_cases (λ f. nest_factor f ≤ n → PF f) (λ x deep. s.factor x (atom_upto n s h x.atom (rw (← nest_factor_roll x) deep)))

  prod_upto : (n : ℕ) → ExprSteps PA PF PP PS PE → ((e : Expr) → suc (nest_expr e) ≤ n → PE e) → (p : Prod) → nest_prod p ≤ n → PP p
  prod_upto n s h = prod_cases (λ p. nest_prod p ≤ n → PP p) (λ x deep.
      let d = nest_prod_roll x in
      s.prod x (factor_upto n s h x.first (omega arith)) (each_of PF nest_factor n (factor_upto n s h) x.rest (omega arith)))

  signed_upto : (n : ℕ) → ExprSteps PA PF PP PS PE → ((e : Expr) → suc (nest_expr e) ≤ n → PE e) → (p : Signed) → nest_signed p ≤ n → PS p
  signed_upto n s h = signed_cases (λ p. nest_signed p ≤ n → PS p) (λ x deep. s.signed x (prod_upto n s h x.prod (rw (← nest_signed_roll x) deep)))

  expr_upto : (n : ℕ) → ExprSteps PA PF PP PS PE → (e : Expr) → suc (nest_expr e) ≤ n → PE e
  expr_upto zero s e deep = absurd (omega arith)
  expr_upto (suc n) s e deep = expr_cases (λ e. suc (nest_expr e) ≤ suc n → PE e) (λ x deep.
      let d = nest_expr_roll x in
      s.expr x (prod_upto n s (expr_upto n s) x.first (omega arith)) (each_of PS nest_signed n (signed_upto n s (expr_upto n s)) x.rest (omega arith))) e deep

  -- what each step keeps holds of every expression
  pub every_expr : ExprSteps PA PF PP PS PE → (e : Expr) → PE e
  every_expr s e = expr_upto (suc (nest_expr e)) s e (omega arith)

-- the steps, for conditions
pub record CondSteps (PP : Pred → Type 0) (PN : Neg → Type 0) (PJ : Conj → Type 0) (PC : Cond → Type 0) : Type 0 where
  pub bracket : (c : Cond) → PC c → PP (pred.Bracket c)
  pub compare : (left : Expr) (op : Cmp) (right : Expr) → PP (pred.Compare left op right)
  pub between : (without : Bool) (value low high : Expr) → PP (pred.Between without value low high)
  pub among : (without : Bool) (value : Expr) (list : IntList) → PP (pred.Among without value list)
  pub is_null : (without : Bool) (value : Expr) → PP (pred.IsNull without value)
  pub area : (kind : AreaKind) (span : Span) (args : IntList) → PP (pred.Area kind span args)
  pub chord : (left right : Name) (strict : Bool) (n : ℤ) → PP (pred.Chord left right strict n)
  pub neg : (x : Neg-F Pred Cond Conj Neg) → PP x.pred → PN (roll-Neg x)
  pub conj : (x : Conj-F Pred Cond Conj Neg) → PN x.first → Each PN x.rest → PJ (roll-Conj x)
  pub cond : (x : Cond-F Pred Cond Conj Neg) → PJ x.first → Each PJ x.rest → PC (roll-Cond x)

module _ {PP : Pred → Type 0} {PN : Neg → Type 0} {PJ : Conj → Type 0} {PC : Cond → Type 0} where
  pred_upto : (n : ℕ) → CondSteps PP PN PJ PC → ((c : Cond) → suc (nest_cond c) ≤ n → PC c) → (p : Pred) → nest_pred p ≤ n → PP p
  pred_upto n s h = pred_cases (λ p. nest_pred p ≤ n → PP p)
      (λ c deep. s.bracket c (h c (rw (← nest_bracket_pred c) deep)))
      (λ left op right deep. s.compare left op right)
      (λ without value low high deep. s.between without value low high)
      (λ without value list deep. s.among without value list)
      (λ without value deep. s.is_null without value)
      (λ kind span args deep. s.area kind span args)
      (λ left right strict k deep. s.chord left right strict k)

  neg_upto : (n : ℕ) → CondSteps PP PN PJ PC → ((c : Cond) → suc (nest_cond c) ≤ n → PC c) → (x : Neg) → nest_neg x ≤ n → PN x
  neg_upto n s h = neg_cases (λ x. nest_neg x ≤ n → PN x) (λ x deep. s.neg x (pred_upto n s h x.pred (rw (← nest_neg_roll x) deep)))

  conj_upto : (n : ℕ) → CondSteps PP PN PJ PC → ((c : Cond) → suc (nest_cond c) ≤ n → PC c) → (x : Conj) → nest_conj x ≤ n → PJ x
  conj_upto n s h = conj_cases (λ x. nest_conj x ≤ n → PJ x) (λ x deep.
      let d = nest_conj_roll x in
      s.conj x (neg_upto n s h x.first (omega arith)) (each_of PN nest_neg n (neg_upto n s h) x.rest (omega arith)))

  cond_upto : (n : ℕ) → CondSteps PP PN PJ PC → (c : Cond) → suc (nest_cond c) ≤ n → PC c
  cond_upto zero s c deep = absurd (omega arith)
  cond_upto (suc n) s c deep = cond_cases (λ c. suc (nest_cond c) ≤ suc n → PC c) (λ x deep.
      let d = nest_cond_roll x in
      s.cond x (conj_upto n s (cond_upto n s) x.first (omega arith)) (each_of PJ nest_conj n (conj_upto n s (cond_upto n s)) x.rest (omega arith))) c deep

  -- what each step keeps holds of every condition
  pub every_cond : CondSteps PP PN PJ PC → (c : Cond) → PC c
  every_cond s c = cond_upto (suc (nest_cond c)) s c (omega arith)
