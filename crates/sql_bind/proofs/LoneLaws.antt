-- The column or the int that an expression is, part by part.
use Rattle.std.proofs.Common.{◌≡◌, ℤ, List, [], ◌∷◌, Some, None, refl, map, ◌∙◌}
use Rattle.sql_tree.specs.declared.expr.Atom.TheFolds.{fold_out-Expr, fold_out-Factor, fold_out-Prod}
use Rattle.sql_tree.specs.declared.expr.Atom.TheVariants as atom
use Rattle.sql_tree.specs.declared.expr.Expr.{Expr, out-Expr}
use Rattle.sql_tree.specs.declared.expr.Factor.{Factor, out-Factor}
use Rattle.sql_tree.specs.declared.expr.Prod.{Prod, out-Prod}
use Rattle.sql_tree.specs.declared.name.Col.{Col}
use Rattle.std.specs.Prelude.{if◌then◌else◌}
use Rattle.bind_rules.specs.IdTests.{LoneCol, LoneInt, Alone, first_alone, lone_at_atom, lone_at_factor, lone_of}
use Rattle.bind_rules.proofs.Folds.{fold_int, fold_col, fold_bracket}
use Rattle.sql_bind.specs.LoneParts.{lone_of_atom, lone_of_factor, lone_of_prod}

pub int_alone : (n : ℤ) → lone_of_atom (atom.Int n) ≡ Some (LoneInt n)
unfolding lone_of_atom
int_alone n = fold_int lone_at_atom (λ e. first_alone e.first e.rest) lone_at_factor (λ p. first_alone p.first p.rest) (λ s. s.prod) n

pub col_alone : (c : Col) → lone_of_atom (atom.Col c) ≡ Some (LoneCol c)
unfolding lone_of_atom
col_alone c = fold_col lone_at_atom (λ e. first_alone e.first e.rest) lone_at_factor (λ p. first_alone p.first p.rest) (λ s. s.prod) c

pub bracket_alone : (e : Expr) → lone_of_atom (atom.Bracket e) ≡ None
unfolding lone_of_atom
bracket_alone e = fold_bracket lone_at_atom (λ e. first_alone e.first e.rest) lone_at_factor (λ p. first_alone p.first p.rest) (λ s. s.prod) e

pub factor_alone : (f : Factor) → lone_of_factor f ≡ (if (out-Factor f).minus then None else lone_of_atom (out-Factor f).atom)
unfolding lone_of_factor lone_of_atom
factor_alone f = fold_out-Factor Alone Alone Alone Alone Alone lone_at_atom (λ e. first_alone e.first e.rest) lone_at_factor (λ p. first_alone p.first p.rest) (λ s. s.prod) f

first_of_empty : {A B : Type 0} (x : Alone) (f : A → B) (xs : List A) → xs ≡ [] → first_alone x (map f xs) ≡ x
first_of_empty x f [] h = refl
first_of_empty x f (y ∷ ys) h = absurd (cc h)

first_of_more : {A B : Type 0} (x : Alone) (f : A → B) (xs : List A) → (xs ≡ [] → ⊥) → first_alone x (map f xs) ≡ None
first_of_more x f [] h = absurd (h refl)
first_of_more x f (y ∷ ys) h = refl

prod_parts : (p : Prod) → lone_of_prod p ≡ first_alone (lone_of_factor (out-Prod p).first) (map lone_of_factor (out-Prod p).rest)
unfolding lone_of_factor lone_of_prod
prod_parts p = fold_out-Prod Alone Alone Alone Alone Alone lone_at_atom (λ e. first_alone e.first e.rest) lone_at_factor (λ p. first_alone p.first p.rest) (λ s. s.prod) p

pub prod_alone : (p : Prod) → (out-Prod p).rest ≡ [] → lone_of_prod p ≡ lone_of_factor (out-Prod p).first
prod_alone p h = prod_parts p ∙ first_of_empty (lone_of_factor (out-Prod p).first) lone_of_factor (out-Prod p).rest h

pub prod_of_more : (p : Prod) → ((out-Prod p).rest ≡ [] → ⊥) → lone_of_prod p ≡ None
prod_of_more p h = prod_parts p ∙ first_of_more (lone_of_factor (out-Prod p).first) lone_of_factor (out-Prod p).rest h

expr_empty : (e : Expr) → (out-Expr e).rest ≡ [] → lone_of e ≡ lone_of_prod (out-Expr e).first
unfolding lone_of lone_of_prod
expr_empty e h =
    fold_out-Expr Alone Alone Alone Alone Alone lone_at_atom (λ e. first_alone e.first e.rest) lone_at_factor (λ p. first_alone p.first p.rest) (λ s. s.prod) e
    ∙ first_of_empty _ _ (out-Expr e).rest h

expr_more : (e : Expr) → ((out-Expr e).rest ≡ [] → ⊥) → lone_of e ≡ None
unfolding lone_of lone_of_prod
expr_more e h =
    fold_out-Expr Alone Alone Alone Alone Alone lone_at_atom (λ e. first_alone e.first e.rest) lone_at_factor (λ p. first_alone p.first p.rest) (λ s. s.prod) e
    ∙ first_of_more _ _ (out-Expr e).rest h

pub expr_alone : (e : Expr) → (out-Expr e).rest ≡ [] → lone_of e ≡ lone_of_prod (out-Expr e).first
expr_alone e h = expr_empty e h

pub expr_of_more : (e : Expr) → ((out-Expr e).rest ≡ [] → ⊥) → lone_of e ≡ None
expr_of_more e h = expr_more e h
