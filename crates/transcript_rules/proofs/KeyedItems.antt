-- A plain item of a grouping in the merge: as it is printed, but with each column written as that of its key.
use Rattle.std.proofs.Common.{◌≡◌, ℕ, suc, zero, ◌≤◌, List, [], ◌∷◌, ◌++◌, map, codes, refl, sym, ap, ◌∙◌, arith}
use Rattle.std.specs.Prelude.{if◌then◌else◌}
use Rattle.sql_bound.specs.declared.expr.BoundAtom.{BoundAtom}
use Rattle.sql_bound.specs.declared.expr.BoundAtom.TheFolds.{fold-BoundAtom, fold-BoundExpr, fold-BoundFactor}
use Rattle.sql_bound.specs.declared.expr.BoundAtom.TheFolds.{fold-BoundProd, fold-BoundSigned}
use Rattle.sql_bound.specs.declared.expr.BoundAtom.TheFolds.{fold-roll-BoundExpr, fold-roll-BoundFactor}
use Rattle.sql_bound.specs.declared.expr.BoundAtom.TheFolds.{fold-roll-BoundProd, fold-roll-BoundSigned}
use Rattle.sql_bound.specs.declared.expr.BoundCol.{BoundCol}
use Rattle.sql_bound.specs.declared.expr.BoundExpr.{BoundExpr}
use Rattle.sql_bound.specs.declared.expr.BoundFactor.{BoundFactor}
use Rattle.sql_bound.specs.declared.expr.BoundProd.{BoundProd}
use Rattle.sql_bound.specs.declared.expr.BoundSigned.{BoundSigned}
use Rattle.sql_tree.specs.declared.expr.Atom.{Atom}
use Rattle.sql_tree.specs.declared.expr.Atom.TheFolds.{fold-Atom, fold-Expr, fold-Factor, fold-Prod, fold-Signed}
use Rattle.sql_tree.specs.declared.expr.Atom.TheFolds.{fold-roll-Expr, fold-roll-Factor, fold-roll-Prod}
use Rattle.sql_tree.specs.declared.expr.Atom.TheFolds.{fold-roll-Signed}
use Rattle.sql_tree.specs.declared.expr.Expr.{Expr}
use Rattle.sql_tree.specs.declared.expr.Factor.{Factor}
use Rattle.sql_tree.specs.declared.expr.Prod.{Prod}
use Rattle.sql_tree.specs.declared.expr.Signed.{Signed}
use Rattle.sql_rules.proofs.Nesting.{most, nest_atom, nest_expr, nest_factor, nest_prod, nest_signed}
use Rattle.sql_rules.proofs.Opened.{nest_bracket_atom, nest_factor_roll, nest_prod_roll, nest_signed_roll}
use Rattle.sql_rules.proofs.Opened.{nest_expr_roll}
use Rattle.sql_rules.proofs.Opened.{atom_cases, factor_cases, prod_cases, signed_cases, expr_cases}
use Rattle.sql_rules.specs.PrintedExprs.{Bytes, text_if, behind_each, in_brackets, print_expr_step, print_factor_step}
use Rattle.sql_rules.specs.PrintedExprs.{print_prod_step, print_signed_step}
use Rattle.bind_rules.specs.Bounds.{Scope, bound_col, bound_atom_step, bound_expr_step, bound_factor_step, expr_by}
use Rattle.bind_rules.specs.Bounds.{bound_prod_step, bound_signed_step}
use Rattle.bind_rules.proofs.Folds.{fold_int, fold_col, fold_bracket}
use Rattle.transcript_rules.specs.MergeLines.{key_atom, sum_text, factor_text, product_text, signed_text, key_expr_text}
use Rattle.transcript_rules.specs.KeyedTexts.{keyed_step, keyed_text, PlainItemsByKeys}
use Rattle.transcript_rules.proofs.Keyed.{keyed_int, keyed_col, keyed_bracket}

-- ---- what is bound, what the merge writes of it, and what is printed with the keys' columns

abbrev b_atom : Scope → Atom → BoundAtom
b_atom s = fold-Atom BoundAtom BoundExpr BoundFactor BoundProd BoundSigned
    (bound_atom_step s) bound_expr_step bound_factor_step bound_prod_step bound_signed_step

abbrev b_expr : Scope → Expr → BoundExpr
b_expr s = fold-Expr BoundAtom BoundExpr BoundFactor BoundProd BoundSigned
    (bound_atom_step s) bound_expr_step bound_factor_step bound_prod_step bound_signed_step

abbrev b_factor : Scope → Factor → BoundFactor
b_factor s = fold-Factor BoundAtom BoundExpr BoundFactor BoundProd BoundSigned
    (bound_atom_step s) bound_expr_step bound_factor_step bound_prod_step bound_signed_step

abbrev b_prod : Scope → Prod → BoundProd
b_prod s = fold-Prod BoundAtom BoundExpr BoundFactor BoundProd BoundSigned
    (bound_atom_step s) bound_expr_step bound_factor_step bound_prod_step bound_signed_step

abbrev b_signed : Scope → Signed → BoundSigned
b_signed s = fold-Signed BoundAtom BoundExpr BoundFactor BoundProd BoundSigned
    (bound_atom_step s) bound_expr_step bound_factor_step bound_prod_step bound_signed_step

abbrev k_atom : List BoundCol → BoundAtom → Bytes
k_atom keys = fold-BoundAtom Bytes Bytes Bytes Bytes Bytes (key_atom keys) sum_text factor_text product_text signed_text

abbrev k_expr : List BoundCol → BoundExpr → Bytes
k_expr keys = fold-BoundExpr Bytes Bytes Bytes Bytes Bytes (key_atom keys) sum_text factor_text product_text signed_text

abbrev k_factor : List BoundCol → BoundFactor → Bytes
k_factor keys = fold-BoundFactor Bytes Bytes Bytes Bytes Bytes
    (key_atom keys) sum_text factor_text product_text signed_text

abbrev k_prod : List BoundCol → BoundProd → Bytes
k_prod keys = fold-BoundProd Bytes Bytes Bytes Bytes Bytes (key_atom keys) sum_text factor_text product_text signed_text

abbrev k_signed : List BoundCol → BoundSigned → Bytes
k_signed keys = fold-BoundSigned Bytes Bytes Bytes Bytes Bytes
    (key_atom keys) sum_text factor_text product_text signed_text

abbrev w_atom : Scope → List BoundCol → Atom → Bytes
w_atom s keys = fold-Atom Bytes Bytes Bytes Bytes Bytes
    (keyed_step s keys) print_expr_step print_factor_step print_prod_step print_signed_step

abbrev w_expr : Scope → List BoundCol → Expr → Bytes
w_expr s keys = fold-Expr Bytes Bytes Bytes Bytes Bytes
    (keyed_step s keys) print_expr_step print_factor_step print_prod_step print_signed_step

abbrev w_factor : Scope → List BoundCol → Factor → Bytes
w_factor s keys = fold-Factor Bytes Bytes Bytes Bytes Bytes
    (keyed_step s keys) print_expr_step print_factor_step print_prod_step print_signed_step

abbrev w_prod : Scope → List BoundCol → Prod → Bytes
w_prod s keys = fold-Prod Bytes Bytes Bytes Bytes Bytes
    (keyed_step s keys) print_expr_step print_factor_step print_prod_step print_signed_step

abbrev w_signed : Scope → List BoundCol → Signed → Bytes
w_signed s keys = fold-Signed Bytes Bytes Bytes Bytes Bytes
    (keyed_step s keys) print_expr_step print_factor_step print_prod_step print_signed_step

-- ---- trees of each depth below n

-- what holds of expressions below a depth
abbrev Below : Scope → List BoundCol → ℕ → Type 0
Below s keys n = (e : Expr) → suc (nest_expr e) ≤ n → k_expr keys (b_expr s e) ≡ w_expr s keys e

-- a list of trees, each written alike
each_alike : {A B : Type 0} (n : ℕ) (nest : A → ℕ) (bind : A → B) (key : B → Bytes) (write : A → Bytes)
    → ((x : A) → nest x ≤ n → key (bind x) ≡ write x) → (xs : List A) → most (map nest xs) ≤ n
    → map key (map bind xs) ≡ map write xs
each_alike n nest bind key write h [] deep = refl
each_alike n nest bind key write h (x ∷ xs) deep =
    ap (λ t. t ∷ map key (map bind xs)) (h x (omega arith))
    ∙ ap (λ ts. write x ∷ ts) (each_alike n nest bind key write h xs (omega arith))

atom_alike : (s : Scope) (keys : List BoundCol) (n : ℕ) → Below s keys n → (a : Atom) → nest_atom a ≤ n
    → k_atom keys (b_atom s a) ≡ w_atom s keys a
atom_alike s keys n h = atom_cases (λ a. nest_atom a ≤ n → k_atom keys (b_atom s a) ≡ w_atom s keys a)
    (λ i deep.
    ap (k_atom keys) (fold_int (bound_atom_step s) bound_expr_step bound_factor_step bound_prod_step bound_signed_step
    i)
    ∙ keyed_int (key_atom keys) sum_text factor_text product_text signed_text i
    ∙ sym (fold_int (keyed_step s keys) print_expr_step print_factor_step print_prod_step print_signed_step i))
    (λ c deep.
    ap (k_atom keys) (fold_col (bound_atom_step s) bound_expr_step bound_factor_step bound_prod_step bound_signed_step
    c)
    ∙ keyed_col (key_atom keys) sum_text factor_text product_text signed_text (bound_col s c)
    ∙ sym (fold_col (keyed_step s keys) print_expr_step print_factor_step print_prod_step print_signed_step c))
    (λ e deep.
    ap (k_atom keys) (fold_bracket (bound_atom_step s) bound_expr_step bound_factor_step bound_prod_step
    bound_signed_step e)
    ∙ keyed_bracket (key_atom keys) sum_text factor_text product_text signed_text (b_expr s e)
    ∙ ap in_brackets (h e (rw (← nest_bracket_atom e) deep))
    ∙ sym (fold_bracket (keyed_step s keys) print_expr_step print_factor_step print_prod_step print_signed_step e))

factor_alike : (s : Scope) (keys : List BoundCol) (n : ℕ) → Below s keys n → (f : Factor) → nest_factor f ≤ n
    → k_factor keys (b_factor s f) ≡ w_factor s keys f
factor_alike s keys n h = factor_cases (λ f. nest_factor f ≤ n → k_factor keys (b_factor s f) ≡ w_factor s keys f)
    (λ x deep.
    ap (k_factor keys) (fold-roll-Factor BoundAtom BoundExpr BoundFactor BoundProd BoundSigned
    (bound_atom_step s) bound_expr_step bound_factor_step bound_prod_step bound_signed_step x)
    ∙ fold-roll-BoundFactor Bytes Bytes Bytes Bytes Bytes (key_atom keys) sum_text factor_text product_text signed_text
    (record { minus = x.minus; atom = b_atom s x.atom })
    ∙ ap (λ t. text_if x.minus (codes "-") ++ t) (atom_alike s keys n h x.atom (rw (← nest_factor_roll x) deep))
    ∙ sym (fold-roll-Factor Bytes Bytes Bytes Bytes Bytes
    (keyed_step s keys) print_expr_step print_factor_step print_prod_step print_signed_step x))

prod_alike : (s : Scope) (keys : List BoundCol) (n : ℕ) → Below s keys n → (p : Prod) → nest_prod p ≤ n
    → k_prod keys (b_prod s p) ≡ w_prod s keys p
prod_alike s keys n h = prod_cases (λ p. nest_prod p ≤ n → k_prod keys (b_prod s p) ≡ w_prod s keys p)
    (λ x deep.
    let d = nest_prod_roll x in
    ap (k_prod keys) (fold-roll-Prod BoundAtom BoundExpr BoundFactor BoundProd BoundSigned
    (bound_atom_step s) bound_expr_step bound_factor_step bound_prod_step bound_signed_step x)
    ∙ fold-roll-BoundProd Bytes Bytes Bytes Bytes Bytes (key_atom keys) sum_text factor_text product_text signed_text
    (record { first = b_factor s x.first; rest = map (b_factor s) x.rest })
    ∙ ap (λ t. t ++ behind_each (codes "*") (map (k_factor keys) (map (b_factor s) x.rest)))
    (factor_alike s keys n h x.first (omega arith))
    ∙ ap (λ ts. w_factor s keys x.first ++ behind_each (codes "*") ts)
    (each_alike n nest_factor (b_factor s) (k_factor keys) (w_factor s keys) (factor_alike s keys n h) x.rest
    (omega arith))
    ∙ sym (fold-roll-Prod Bytes Bytes Bytes Bytes Bytes
    (keyed_step s keys) print_expr_step print_factor_step print_prod_step print_signed_step x))

signed_alike : (s : Scope) (keys : List BoundCol) (n : ℕ) → Below s keys n → (p : Signed) → nest_signed p ≤ n
    → k_signed keys (b_signed s p) ≡ w_signed s keys p
signed_alike s keys n h = signed_cases (λ p. nest_signed p ≤ n → k_signed keys (b_signed s p) ≡ w_signed s keys p)
    (λ x deep.
    ap (k_signed keys) (fold-roll-Signed BoundAtom BoundExpr BoundFactor BoundProd BoundSigned
    (bound_atom_step s) bound_expr_step bound_factor_step bound_prod_step bound_signed_step x)
    ∙ fold-roll-BoundSigned Bytes Bytes Bytes Bytes Bytes (key_atom keys) sum_text factor_text product_text signed_text
    (record { minus = x.minus; prod = b_prod s x.prod })
    ∙ ap (λ t. (if x.minus then codes "-" else codes "+") ++ t)
    (prod_alike s keys n h x.prod (rw (← nest_signed_roll x) deep))
    ∙ sym (fold-roll-Signed Bytes Bytes Bytes Bytes Bytes
    (keyed_step s keys) print_expr_step print_factor_step print_prod_step print_signed_step x))

sum_alike : (s : Scope) (keys : List BoundCol) (n : ℕ) → Below s keys n → (e : Expr) → nest_expr e ≤ n
    → k_expr keys (b_expr s e) ≡ w_expr s keys e
sum_alike s keys n h = expr_cases (λ e. nest_expr e ≤ n → k_expr keys (b_expr s e) ≡ w_expr s keys e)
    (λ x deep.
    let d = nest_expr_roll x in
    ap (k_expr keys) (fold-roll-Expr BoundAtom BoundExpr BoundFactor BoundProd BoundSigned
    (bound_atom_step s) bound_expr_step bound_factor_step bound_prod_step bound_signed_step x)
    ∙ fold-roll-BoundExpr Bytes Bytes Bytes Bytes Bytes (key_atom keys) sum_text factor_text product_text signed_text
    (record { first = b_prod s x.first; rest = map (b_signed s) x.rest })
    ∙ ap (λ t. t ++ behind_each [] (map (k_signed keys) (map (b_signed s) x.rest)))
    (prod_alike s keys n h x.first (omega arith))
    ∙ ap (λ ts. w_prod s keys x.first ++ behind_each [] ts)
    (each_alike n nest_signed (b_signed s) (k_signed keys) (w_signed s keys) (signed_alike s keys n h) x.rest
    (omega arith))
    ∙ sym (fold-roll-Expr Bytes Bytes Bytes Bytes Bytes
    (keyed_step s keys) print_expr_step print_factor_step print_prod_step print_signed_step x))

below_alike : (s : Scope) (keys : List BoundCol) (n : ℕ) → Below s keys n
below_alike s keys zero e deep = absurd (omega arith)
below_alike s keys (suc n) e deep = sum_alike s keys n (below_alike s keys n) e (omega arith)

-- a plain item is written as it is printed, with its keys' columns
pub plain_items_by_keys : PlainItemsByKeys
unfolding expr_by key_expr_text keyed_text
plain_items_by_keys s keys e = below_alike s keys (suc (nest_expr e)) e (omega arith)
