-- Trees without spans, part by part: two are equal where their parts are.
use Rattle.std.proofs.Common.{◌≡◌, ℤ, map, refl, sym, ap, ◌∙◌, Bool, ◌↔◌, IsTrue}
use Rattle.sql_tree.specs.Bare.{bare_col, bare_atom_step, bare_atom, bare_expr, bare_factor, bare_prod, bare_signed}
use Rattle.sql_tree.specs.declared.expr.Atom.{Atom, out-Atom, roll-Atom}
use Rattle.sql_tree.specs.declared.expr.Atom.TheVariants as atom
use Rattle.sql_tree.specs.declared.expr.Atom.TheFolds.{fold-roll-Atom, fold_out-Expr, fold_out-Factor, fold_out-Prod, fold_out-Signed}
use Rattle.sql_tree.specs.declared.expr.Atom.TheViews.{roll-out-Atom, out-roll-Atom, out-roll-Expr, out-roll-Factor, out-roll-Prod, out-roll-Signed}
use Rattle.sql_tree.specs.declared.expr.Atom.TheOpen.{Atom-F}
use Rattle.sql_tree.specs.declared.expr.Expr.{Expr, out-Expr, roll-Expr}
use Rattle.sql_tree.specs.declared.expr.Factor.{Factor, out-Factor, roll-Factor}
use Rattle.sql_tree.specs.declared.expr.Prod.{Prod, out-Prod, roll-Prod}
use Rattle.sql_tree.specs.declared.expr.Signed.{Signed, out-Signed, roll-Signed}
use Rattle.sql_tree.specs.declared.name.Col.{Col}

-- ---- a tree without spans is made of its parts without spans

open_expr : (e : Expr) → bare_expr e ≡ roll-Expr (record { first = bare_prod (out-Expr e).first; rest = map bare_signed (out-Expr e).rest })
unfolding bare_expr bare_prod bare_signed
open_expr e = fold_out-Expr Atom Expr Factor Prod Signed bare_atom_step roll-Expr roll-Factor roll-Prod roll-Signed e

open_prod : (p : Prod) → bare_prod p ≡ roll-Prod (record { first = bare_factor (out-Prod p).first; rest = map bare_factor (out-Prod p).rest })
unfolding bare_prod bare_factor
open_prod p = fold_out-Prod Atom Expr Factor Prod Signed bare_atom_step roll-Expr roll-Factor roll-Prod roll-Signed p

open_signed : (s : Signed) → bare_signed s ≡ roll-Signed (record { minus = (out-Signed s).minus; prod = bare_prod (out-Signed s).prod })
unfolding bare_signed bare_prod
open_signed s = fold_out-Signed Atom Expr Factor Prod Signed bare_atom_step roll-Expr roll-Factor roll-Prod roll-Signed s

open_factor : (f : Factor) → bare_factor f ≡ roll-Factor (record { minus = (out-Factor f).minus; atom = bare_atom (out-Factor f).atom })
unfolding bare_factor bare_atom
open_factor f = fold_out-Factor Atom Expr Factor Prod Signed bare_atom_step roll-Expr roll-Factor roll-Prod roll-Signed f

-- ---- two are equal where their parts are, and nowhere else

outer_expr : (a : Expr) → out-Expr (bare_expr a) ≡ record { first = bare_prod (out-Expr a).first; rest = map bare_signed (out-Expr a).rest }
outer_expr a = ap out-Expr (open_expr a) ∙ out-roll-Expr (record { first = bare_prod (out-Expr a).first; rest = map bare_signed (out-Expr a).rest })

pub expr_whole : (a b : Expr) → bare_prod (out-Expr a).first ≡ bare_prod (out-Expr b).first → map bare_signed (out-Expr a).rest ≡ map bare_signed (out-Expr b).rest → bare_expr a ≡ bare_expr b
expr_whole a b h k = rw (open_expr a, open_expr b, h, k) refl

pub expr_first : (a b : Expr) → bare_expr a ≡ bare_expr b → bare_prod (out-Expr a).first ≡ bare_prod (out-Expr b).first
expr_first a b e = ap (λ x. x.first) (sym (outer_expr a) ∙ ap out-Expr e ∙ outer_expr b)

pub expr_rest : (a b : Expr) → bare_expr a ≡ bare_expr b → map bare_signed (out-Expr a).rest ≡ map bare_signed (out-Expr b).rest
expr_rest a b e = ap (λ x. x.rest) (sym (outer_expr a) ∙ ap out-Expr e ∙ outer_expr b)

outer_prod : (a : Prod) → out-Prod (bare_prod a) ≡ record { first = bare_factor (out-Prod a).first; rest = map bare_factor (out-Prod a).rest }
outer_prod a = ap out-Prod (open_prod a) ∙ out-roll-Prod (record { first = bare_factor (out-Prod a).first; rest = map bare_factor (out-Prod a).rest })

pub prod_whole : (a b : Prod) → bare_factor (out-Prod a).first ≡ bare_factor (out-Prod b).first → map bare_factor (out-Prod a).rest ≡ map bare_factor (out-Prod b).rest → bare_prod a ≡ bare_prod b
prod_whole a b h k = rw (open_prod a, open_prod b, h, k) refl

pub prod_first : (a b : Prod) → bare_prod a ≡ bare_prod b → bare_factor (out-Prod a).first ≡ bare_factor (out-Prod b).first
prod_first a b e = ap (λ x. x.first) (sym (outer_prod a) ∙ ap out-Prod e ∙ outer_prod b)

pub prod_rest : (a b : Prod) → bare_prod a ≡ bare_prod b → map bare_factor (out-Prod a).rest ≡ map bare_factor (out-Prod b).rest
prod_rest a b e = ap (λ x. x.rest) (sym (outer_prod a) ∙ ap out-Prod e ∙ outer_prod b)

outer_signed : (a : Signed) → out-Signed (bare_signed a) ≡ record { minus = (out-Signed a).minus; prod = bare_prod (out-Signed a).prod }
outer_signed a = ap out-Signed (open_signed a) ∙ out-roll-Signed (record { minus = (out-Signed a).minus; prod = bare_prod (out-Signed a).prod })

pub signed_whole : (a b : Signed) → (out-Signed a).minus ≡ (out-Signed b).minus → bare_prod (out-Signed a).prod ≡ bare_prod (out-Signed b).prod → bare_signed a ≡ bare_signed b
signed_whole a b h k = rw (open_signed a, open_signed b, h, k) refl

pub signed_minus : (a b : Signed) → bare_signed a ≡ bare_signed b → (out-Signed a).minus ≡ (out-Signed b).minus
signed_minus a b e = ap (λ x. x.minus) (sym (outer_signed a) ∙ ap out-Signed e ∙ outer_signed b)

pub signed_prod : (a b : Signed) → bare_signed a ≡ bare_signed b → bare_prod (out-Signed a).prod ≡ bare_prod (out-Signed b).prod
signed_prod a b e = ap (λ x. x.prod) (sym (outer_signed a) ∙ ap out-Signed e ∙ outer_signed b)

outer_factor : (a : Factor) → out-Factor (bare_factor a) ≡ record { minus = (out-Factor a).minus; atom = bare_atom (out-Factor a).atom }
outer_factor a = ap out-Factor (open_factor a) ∙ out-roll-Factor (record { minus = (out-Factor a).minus; atom = bare_atom (out-Factor a).atom })

pub factor_whole : (a b : Factor) → (out-Factor a).minus ≡ (out-Factor b).minus → bare_atom (out-Factor a).atom ≡ bare_atom (out-Factor b).atom → bare_factor a ≡ bare_factor b
factor_whole a b h k = rw (open_factor a, open_factor b, h, k) refl

pub factor_minus : (a b : Factor) → bare_factor a ≡ bare_factor b → (out-Factor a).minus ≡ (out-Factor b).minus
factor_minus a b e = ap (λ x. x.minus) (sym (outer_factor a) ∙ ap out-Factor e ∙ outer_factor b)

pub factor_atom : (a b : Factor) → bare_factor a ≡ bare_factor b → bare_atom (out-Factor a).atom ≡ bare_atom (out-Factor b).atom
factor_atom a b e = ap (λ x. x.atom) (sym (outer_factor a) ∙ ap out-Factor e ∙ outer_factor b)

-- ---- atoms

-- an open atom without spans
abbrev bare_open : Atom-F Atom Expr Factor Prod Signed → Atom-F Atom Expr Factor Prod Signed
bare_open (Atom-F.Int n) = Atom-F.Int n
bare_open (Atom-F.Col c) = Atom-F.Col (bare_col c)
bare_open (Atom-F.Bracket e) = Atom-F.Bracket (bare_expr e)

open_atom : (x : Atom-F Atom Expr Factor Prod Signed) → bare_atom (roll-Atom x) ≡ roll-Atom (bare_open x)
unfolding bare_atom bare_expr
open_atom (Atom-F.Int n) = fold-roll-Atom Atom Expr Factor Prod Signed bare_atom_step roll-Expr roll-Factor roll-Prod roll-Signed (Atom-F.Int n) ∙ sym (atom.rolls-Int n)
open_atom (Atom-F.Col c) = fold-roll-Atom Atom Expr Factor Prod Signed bare_atom_step roll-Expr roll-Factor roll-Prod roll-Signed (Atom-F.Col c) ∙ sym (atom.rolls-Col (bare_col c))
open_atom (Atom-F.Bracket e) = fold-roll-Atom Atom Expr Factor Prod Signed bare_atom_step roll-Expr roll-Factor roll-Prod roll-Signed (Atom-F.Bracket e) ∙ sym (atom.rolls-Bracket (bare_expr e))

outer_atom : (a : Atom) → out-Atom (bare_atom a) ≡ bare_open (out-Atom a)
outer_atom a = ap (λ t. out-Atom (bare_atom t)) (sym (roll-out-Atom a)) ∙ ap out-Atom (open_atom (out-Atom a)) ∙ out-roll-Atom (bare_open (out-Atom a))

-- two atoms are equal where they are so when open
pub atom_open : (a b : Atom) → bare_atom a ≡ bare_atom b → bare_open (out-Atom a) ≡ bare_open (out-Atom b)
atom_open a b e = sym (outer_atom a) ∙ ap out-Atom e ∙ outer_atom b

pub atom_whole : (a b : Atom) → bare_open (out-Atom a) ≡ bare_open (out-Atom b) → bare_atom a ≡ bare_atom b
atom_whole a b e = sym (roll-out-Atom (bare_atom a)) ∙ ap roll-Atom (outer_atom a ∙ e ∙ sym (outer_atom b)) ∙ roll-out-Atom (bare_atom b)

-- atoms of one kind
open_int : (a : Atom) (n : ℤ) → a ≡ atom.Int n → bare_open (out-Atom a) ≡ Atom-F.Int n
open_int a n e = ap (λ t. bare_open (out-Atom t)) (e ∙ sym (atom.rolls-Int n)) ∙ ap bare_open (out-roll-Atom (Atom-F.Int n))

open_col : (a : Atom) (c : Col) → a ≡ atom.Col c → bare_open (out-Atom a) ≡ Atom-F.Col (bare_col c)
open_col a c e = ap (λ t. bare_open (out-Atom t)) (e ∙ sym (atom.rolls-Col c)) ∙ ap bare_open (out-roll-Atom (Atom-F.Col c))

open_bracket : (a : Atom) (e : Expr) → a ≡ atom.Bracket e → bare_open (out-Atom a) ≡ Atom-F.Bracket (bare_expr e)
open_bracket a e h = ap (λ t. bare_open (out-Atom t)) (h ∙ sym (atom.rolls-Bracket e)) ∙ ap bare_open (out-roll-Atom (Atom-F.Bracket e))

pub int_atoms : (a b : Atom) (m n : ℤ) (r : Bool) → a ≡ atom.Int m → b ≡ atom.Int n → (IsTrue r ↔ (m ≡ n)) → IsTrue r ↔ (bare_atom a ≡ bare_atom b)
int_atoms a b m n r is is' h =
    let x = open_int a m is in
    let y = open_int b n is' in
    (λ t. atom_whole a b (x ∙ ap (λ k. Atom-F.Int k) (h.0 t) ∙ sym y), λ e. let both = sym x ∙ atom_open a b e ∙ y in h.1 cc)

pub col_atoms : (a b : Atom) (c d : Col) (r : Bool) → a ≡ atom.Col c → b ≡ atom.Col d → (IsTrue r ↔ (bare_col c ≡ bare_col d)) → IsTrue r ↔ (bare_atom a ≡ bare_atom b)
col_atoms a b c d r is is' h =
    let x = open_col a c is in
    let y = open_col b d is' in
    (λ t. atom_whole a b (x ∙ ap (λ k. Atom-F.Col k) (h.0 t) ∙ sym y), λ e. let both = sym x ∙ atom_open a b e ∙ y in h.1 cc)

pub bracket_atoms : (a b : Atom) (c d : Expr) (r : Bool) → a ≡ atom.Bracket c → b ≡ atom.Bracket d → (IsTrue r ↔ (bare_expr c ≡ bare_expr d)) → IsTrue r ↔ (bare_atom a ≡ bare_atom b)
bracket_atoms a b c d r is is' h =
    let x = open_bracket a c is in
    let y = open_bracket b d is' in
    (λ t. atom_whole a b (x ∙ ap (λ k. Atom-F.Bracket k) (h.0 t) ∙ sym y), λ e. let both = sym x ∙ atom_open a b e ∙ y in h.1 cc)
