-- An expression that is one column or one int alone has that as its term.
use Rattle.std.proofs.Common.{◌≡◌, Bool, true, false, List, [], ◌∷◌, map, Some, None, refl, sym, subst, if◌then◌else◌}
use Rattle.sql_tree.specs.declared.expr.Atom.{Atom}
use Rattle.sql_tree.specs.declared.expr.Atom.TheFolds.{fold-Atom, fold-Factor, fold-Prod, fold-Signed}
use Rattle.sql_tree.specs.declared.expr.Atom.TheFolds.{fold-roll-Factor, fold-roll-Prod, fold-roll-Expr}
use Rattle.sql_tree.specs.declared.expr.Expr.{Expr}
use Rattle.sql_tree.specs.declared.expr.Factor.{Factor}
use Rattle.sql_tree.specs.declared.expr.Prod.{Prod}
use Rattle.sql_tree.specs.declared.expr.Signed.{Signed}
use Rattle.value_rules.specs.Terms.{Term, Number, Column, Minus, sum_from, product_from, term_of, term_of_atom, term_of_factor, term_of_prod, term_of_signed}
use Rattle.bind_rules.specs.Bounds.{Meaning, expr_by}
use Rattle.bind_rules.specs.IdTests.{LoneCol, LoneInt, Alone, first_alone, lone_at_atom, lone_at_factor, lone_of}
use Rattle.bind_rules.proofs.Folds.{fold_int, fold_col, fold_bracket}
use Rattle.bind_rules.proofs.Inductions.{expr_induction}
use Rattle.bind_rules.proofs.Exprs.{atom_in, factor_in, prod_in, signed_in, int_term, col_term, factor_term, prod_term, expr_term}

-- the term is what stands alone
abbrev pub Means : Meaning → Alone → Term → Type 0
Means means None t = Unit {0}
Means means (Some (LoneCol c)) t = t ≡ Column (means c)
Means means (Some (LoneInt n)) t = t ≡ Number n

abbrev lone_atom : Atom → Alone
lone_atom = fold-Atom Alone Alone Alone Alone Alone lone_at_atom (λ e. first_alone e.first e.rest) lone_at_factor (λ p. first_alone p.first p.rest) (λ s. s.prod)

abbrev lone_factor : Factor → Alone
lone_factor = fold-Factor Alone Alone Alone Alone Alone lone_at_atom (λ e. first_alone e.first e.rest) lone_at_factor (λ p. first_alone p.first p.rest) (λ s. s.prod)

abbrev lone_prod : Prod → Alone
lone_prod = fold-Prod Alone Alone Alone Alone Alone lone_at_atom (λ e. first_alone e.first e.rest) lone_at_factor (λ p. first_alone p.first p.rest) (λ s. s.prod)

abbrev lone_signed : Signed → Alone
lone_signed = fold-Signed Alone Alone Alone Alone Alone lone_at_atom (λ e. first_alone e.first e.rest) lone_at_factor (λ p. first_alone p.first p.rest) (λ s. s.prod)

means_as : (means : Meaning) (l l' : Alone) (t t' : Term) → l ≡ l' → t ≡ t' → Means means l' t' → Means means l t
means_as means l l' t t' p q h = subst (λ x. Means means x t) (sym p) (subst (λ x. Means means l' x) (sym q) h)

means_factor : (means : Meaning) (m : Bool) (l : Alone) (t : Term) → Means means l t → Means means (if m then None else l) (if m then Minus t else t)
means_factor means true l t h = tt
means_factor means false l t h = h

means_product : (means : Meaning) (l : Alone) (t : Term) (fs : List Factor) → Means means l t → Means means (first_alone l (map lone_factor fs)) (product_from t (map term_of_factor (map (factor_in means) fs)))
means_product means l t [] h = h
means_product means l t (f ∷ fs) h = tt

means_sum : (means : Meaning) (l : Alone) (t : Term) (gs : List Signed) → Means means l t → Means means (first_alone l (map lone_signed gs)) (sum_from t (map term_of_signed (map (signed_in means) gs)))
means_sum means l t [] h = h
means_sum means l t (g ∷ gs) h = tt

pub lone_means : (means : Meaning) (e : Expr) → Means means (lone_of e) (term_of (expr_by means e))
unfolding lone_of expr_by
lone_means means = expr_induction
    (λ a. Means means (lone_atom a) (term_of_atom (atom_in means a)))
    (λ e. Means means (lone_of e) (term_of (expr_by means e)))
    (λ f. Means means (lone_factor f) (term_of_factor (factor_in means f)))
    (λ p. Means means (lone_prod p) (term_of_prod (prod_in means p)))
    (λ g. Unit {0})
    (λ n. means_as means _ (Some (LoneInt n)) _ (Number n) (fold_int lone_at_atom (λ e. first_alone e.first e.rest) lone_at_factor (λ p. first_alone p.first p.rest) (λ s. s.prod) n) (int_term means n) refl)
    (λ c. means_as means _ (Some (LoneCol c)) _ (Column (means c)) (fold_col lone_at_atom (λ e. first_alone e.first e.rest) lone_at_factor (λ p. first_alone p.first p.rest) (λ s. s.prod) c) (col_term means c) refl)
    (λ e h. means_as means _ None _ _ (fold_bracket lone_at_atom (λ e. first_alone e.first e.rest) lone_at_factor (λ p. first_alone p.first p.rest) (λ s. s.prod) e) refl tt)
    (λ x h. means_as means _ (if x.minus then None else lone_atom x.atom) _ (if x.minus then Minus (term_of_atom (atom_in means x.atom)) else term_of_atom (atom_in means x.atom)) (fold-roll-Factor Alone Alone Alone Alone Alone lone_at_atom (λ e. first_alone e.first e.rest) lone_at_factor (λ p. first_alone p.first p.rest) (λ s. s.prod) x) (factor_term means x) (means_factor means x.minus (lone_atom x.atom) (term_of_atom (atom_in means x.atom)) h))
    (λ x h k. means_as means _ (first_alone (lone_factor x.first) (map lone_factor x.rest)) _ (product_from (term_of_factor (factor_in means x.first)) (map term_of_factor (map (factor_in means) x.rest))) (fold-roll-Prod Alone Alone Alone Alone Alone lone_at_atom (λ e. first_alone e.first e.rest) lone_at_factor (λ p. first_alone p.first p.rest) (λ s. s.prod) x) (prod_term means x) (means_product means (lone_factor x.first) (term_of_factor (factor_in means x.first)) x.rest h))
    (λ x h. tt)
    (λ x h k. means_as means _ (first_alone (lone_prod x.first) (map lone_signed x.rest)) _ (sum_from (term_of_prod (prod_in means x.first)) (map term_of_signed (map (signed_in means) x.rest))) (fold-roll-Expr Alone Alone Alone Alone Alone lone_at_atom (λ e. first_alone e.first e.rest) lone_at_factor (λ p. first_alone p.first p.rest) (λ s. s.prod) x) (expr_term means x) (means_sum means (lone_prod x.first) (term_of_prod (prod_in means x.first)) x.rest h))
