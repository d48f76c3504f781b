-- What spells a tree that is made of its parts, and how deep it is.
use Rattle.std.proofs.Common.{◌≡◌, ℕ, ℤ, suc, List, [], ◌∷◌, ◌++◌, map, refl, sym, ap, ◌∙◌, subst, Bool, true, max}
use Rattle.std.specs.List.{flat_map}
use Rattle.sql_token.specs.declared.token.Span.{Span}
use Rattle.sql_tree.specs.declared.cond.AreaKind.{AreaKind}
use Rattle.sql_tree.specs.declared.cond.Cmp.{Cmp}
use Rattle.sql_tree.specs.declared.cond.Cond.{Cond, roll-Cond, out-Cond}
use Rattle.sql_tree.specs.declared.cond.Conj.{Conj, roll-Conj, out-Conj}
use Rattle.sql_tree.specs.declared.cond.IntList.{IntList}
use Rattle.sql_tree.specs.declared.cond.Neg.{Neg, roll-Neg, out-Neg}
use Rattle.sql_tree.specs.declared.cond.Pred.{Pred, roll-Pred, out-Pred}
use Rattle.sql_tree.specs.declared.cond.Pred.TheFolds.{fold-roll-Cond, fold-roll-Conj, fold-roll-Neg, fold-roll-Pred}
use Rattle.sql_tree.specs.declared.cond.Pred.TheOpen.{Cond-F, Conj-F, Neg-F, Pred-F}
use Rattle.sql_tree.specs.declared.cond.Pred.TheViews.{roll-out-Cond, roll-out-Conj, roll-out-Neg, roll-out-Pred}
use Rattle.sql_tree.specs.declared.expr.Atom.{Atom, roll-Atom, out-Atom}
use Rattle.sql_tree.specs.declared.expr.Atom.TheFolds.{fold-roll-Atom, fold-roll-Expr, fold-roll-Factor}
use Rattle.sql_tree.specs.declared.expr.Atom.TheFolds.{fold-roll-Prod, fold-roll-Signed}
use Rattle.sql_tree.specs.declared.expr.Atom.TheOpen.{Atom-F, Expr-F, Factor-F, Prod-F, Signed-F}
use Rattle.sql_tree.specs.declared.expr.Atom.TheViews.{roll-out-Atom, roll-out-Expr, roll-out-Factor, roll-out-Prod}
use Rattle.sql_tree.specs.declared.expr.Atom.TheViews.{roll-out-Signed}
use Rattle.sql_tree.specs.declared.expr.Expr.{Expr, roll-Expr, out-Expr}
use Rattle.sql_tree.specs.declared.expr.Factor.{Factor, roll-Factor, out-Factor}
use Rattle.sql_tree.specs.declared.expr.Prod.{Prod, roll-Prod, out-Prod}
use Rattle.sql_tree.specs.declared.expr.Signed.{Signed, roll-Signed, out-Signed}
use Rattle.sql_tree.specs.declared.name.Col.{Col}
use Rattle.sql_tree.specs.declared.name.Name.{Name}
use Rattle.sql_rules.proofs.Nesting.{most, depth_atom, depth_expr, depth_factor, depth_prod, depth_signed, nest_atom}
use Rattle.sql_rules.proofs.Nesting.{nest_expr, nest_factor, nest_prod, nest_signed, depth_pred, depth_cond}
use Rattle.sql_rules.proofs.Nesting.{depth_conj, depth_neg, nest_pred, nest_cond, nest_conj, nest_neg}
use Rattle.sql_rules.specs.Symbols.{of_keyword, of_sign, Named, Number, Adds, Compares, AreaName}
use Rattle.sql_rules.specs.Spelling.{Symbols, optional, bracketed, spell_col, at_atom, at_factor, at_prod, at_signed}
use Rattle.sql_rules.specs.Spelling.{at_expr, spell_atom, spell_expr, spell_factor, spell_prod, spell_signed}
use Rattle.sql_rules.specs.SpellingConds.{spell_ints, chord_op, at_pred, at_neg, at_conj, at_cond, spell_cond}
use Rattle.sql_rules.specs.SpellingConds.{spell_conj}
use Rattle.sql_rules.specs.SpellingConds.{spell_neg, spell_pred}
use Rattle.sql_token.specs.declared.keyword.Keyword.TheVariants as keyword
use Rattle.sql_token.specs.declared.sign.Sign.TheVariants as sign
use Rattle.sql_tree.specs.declared.expr.Atom.TheVariants as atom
use Rattle.sql_tree.specs.declared.cond.Pred.TheVariants as pred

pub flat_map-map : {A B C : Type 0} (f : B → List C) (g : A → B) (xs : List A) → flat_map f (map g xs) ≡ flat_map (λ x. f (g x)) xs
flat_map-map f g [] = refl
flat_map-map f g (x ∷ xs) = ap (λ t. f (g x) ++ t) (flat_map-map f g xs)

-- a factor behind its sign, and the same of a conjunction's and a condition's parts
abbrev pub starred : Factor → Symbols
starred f = of_sign sign.Star ∷ spell_factor f

abbrev pub anded : Neg → Symbols
anded n = of_keyword keyword.And ∷ spell_neg n

abbrev pub ored : Conj → Symbols
ored c = of_keyword keyword.Or ∷ spell_conj c

pub spell_int_atom : (n : _) → spell_atom (atom.Int n) ≡ Number n ∷ []
spell_int_atom n = ap spell_atom (sym (atom.rolls-Int n)) ∙ fold-roll-Atom Symbols Symbols Symbols Symbols Symbols at_atom at_expr at_factor at_prod at_signed (Atom-F.Int n)

pub spell_col_atom : (c : Col) → spell_atom (atom.Col c) ≡ spell_col c
spell_col_atom c = ap spell_atom (sym (atom.rolls-Col c)) ∙ fold-roll-Atom Symbols Symbols Symbols Symbols Symbols at_atom at_expr at_factor at_prod at_signed (Atom-F.Col c)

pub spell_bracket_atom : (e : Expr) → spell_atom (atom.Bracket e) ≡ of_sign sign.Open ∷ (spell_expr e ++ (of_sign sign.Close ∷ []))
spell_bracket_atom e = ap spell_atom (sym (atom.rolls-Bracket e)) ∙ fold-roll-Atom Symbols Symbols Symbols Symbols Symbols at_atom at_expr at_factor at_prod at_signed (Atom-F.Bracket e)

pub spell_factor_roll : (x : Factor-F Atom Expr Factor Prod Signed) → spell_factor (roll-Factor x) ≡ optional x.minus (Adds true) ++ spell_atom x.atom
spell_factor_roll x = fold-roll-Factor Symbols Symbols Symbols Symbols Symbols at_atom at_expr at_factor at_prod at_signed x

pub spell_prod_roll : (x : Prod-F Atom Expr Factor Prod Signed) → spell_prod (roll-Prod x) ≡ spell_factor x.first ++ flat_map starred x.rest
spell_prod_roll x = fold-roll-Prod Symbols Symbols Symbols Symbols Symbols at_atom at_expr at_factor at_prod at_signed x ∙ ap (λ t. spell_factor x.first ++ t) (flat_map-map (λ t. of_sign sign.Star ∷ t) spell_factor x.rest)

pub spell_signed_roll : (x : Signed-F Atom Expr Factor Prod Signed) → spell_signed (roll-Signed x) ≡ Adds x.minus ∷ spell_prod x.prod
spell_signed_roll x = fold-roll-Signed Symbols Symbols Symbols Symbols Symbols at_atom at_expr at_factor at_prod at_signed x

pub spell_expr_roll : (x : Expr-F Atom Expr Factor Prod Signed) → spell_expr (roll-Expr x) ≡ spell_prod x.first ++ flat_map spell_signed x.rest
spell_expr_roll x = fold-roll-Expr Symbols Symbols Symbols Symbols Symbols at_atom at_expr at_factor at_prod at_signed x ∙ ap (λ t. spell_prod x.first ++ t) (flat_map-map (λ t. t) spell_signed x.rest)

pub spell_bracket_pred : (c : Cond) → spell_pred (pred.Bracket c) ≡ bracketed (spell_cond c)
spell_bracket_pred c = ap spell_pred (sym (pred.rolls-Bracket c)) ∙ fold-roll-Pred Symbols Symbols Symbols Symbols at_pred at_cond at_conj at_neg (Pred-F.Bracket c)

pub spell_compare_pred : (left : Expr) (op : Cmp) (right : Expr) → spell_pred (pred.Compare left op right) ≡ spell_expr left ++ (Compares op ∷ spell_expr right)
spell_compare_pred left op right = ap spell_pred (sym (pred.rolls-Compare left op right)) ∙ fold-roll-Pred Symbols Symbols Symbols Symbols at_pred at_cond at_conj at_neg (Pred-F.Compare left op right)

pub spell_between_pred : (without : Bool) (value low high : Expr) → spell_pred (pred.Between without value low high) ≡ spell_expr value ++ (optional without (of_keyword keyword.Not) ++ (of_keyword keyword.Between ∷ (spell_expr low ++ (of_keyword keyword.And ∷ spell_expr high))))
spell_between_pred without value low high = ap spell_pred (sym (pred.rolls-Between without value low high)) ∙ fold-roll-Pred Symbols Symbols Symbols Symbols at_pred at_cond at_conj at_neg (Pred-F.Between without value low high)

pub spell_among_pred : (without : Bool) (value : Expr) (list : IntList) → spell_pred (pred.Among without value list) ≡ spell_expr value ++ (optional without (of_keyword keyword.Not) ++ (of_keyword keyword.In ∷ spell_ints list))
spell_among_pred without value list = ap spell_pred (sym (pred.rolls-Among without value list)) ∙ fold-roll-Pred Symbols Symbols Symbols Symbols at_pred at_cond at_conj at_neg (Pred-F.Among without value list)

pub spell_null_pred : (without : Bool) (value : Expr) → spell_pred (pred.IsNull without value) ≡ spell_expr value ++ (of_keyword keyword.Is ∷ (optional without (of_keyword keyword.Not) ++ (of_keyword keyword.Null ∷ [])))
spell_null_pred without value = ap spell_pred (sym (pred.rolls-IsNull without value)) ∙ fold-roll-Pred Symbols Symbols Symbols Symbols at_pred at_cond at_conj at_neg (Pred-F.IsNull without value)

pub spell_area_pred : (kind : AreaKind) (span : Span) (args : IntList) → spell_pred (pred.Area kind span args) ≡ AreaName kind span ∷ spell_ints args
spell_area_pred kind span args = ap spell_pred (sym (pred.rolls-Area kind span args)) ∙ fold-roll-Pred Symbols Symbols Symbols Symbols at_pred at_cond at_conj at_neg (Pred-F.Area kind span args)

pub spell_chord_pred : (left right : Name) (strict : Bool) (n : ℤ) → spell_pred (pred.Chord left right strict n) ≡ of_keyword keyword.Chord2 ∷ (bracketed (Named left ∷ of_sign sign.Comma ∷ Named right ∷ []) ++ (Compares (chord_op strict) ∷ Number n ∷ []))
spell_chord_pred left right strict n = ap spell_pred (sym (pred.rolls-Chord left right strict n)) ∙ fold-roll-Pred Symbols Symbols Symbols Symbols at_pred at_cond at_conj at_neg (Pred-F.Chord left right strict n)

pub spell_neg_roll : (x : Neg-F Pred Cond Conj Neg) → spell_neg (roll-Neg x) ≡ optional x.not (of_keyword keyword.Not) ++ spell_pred x.pred
spell_neg_roll x = fold-roll-Neg Symbols Symbols Symbols Symbols at_pred at_cond at_conj at_neg x

pub spell_conj_roll : (x : Conj-F Pred Cond Conj Neg) → spell_conj (roll-Conj x) ≡ spell_neg x.first ++ flat_map anded x.rest
spell_conj_roll x = fold-roll-Conj Symbols Symbols Symbols Symbols at_pred at_cond at_conj at_neg x ∙ ap (λ t. spell_neg x.first ++ t) (flat_map-map (λ t. of_keyword keyword.And ∷ t) spell_neg x.rest)

pub spell_cond_roll : (x : Cond-F Pred Cond Conj Neg) → spell_cond (roll-Cond x) ≡ spell_conj x.first ++ flat_map ored x.rest
spell_cond_roll x = fold-roll-Cond Symbols Symbols Symbols Symbols at_pred at_cond at_conj at_neg x ∙ ap (λ t. spell_conj x.first ++ t) (flat_map-map (λ t. of_keyword keyword.Or ∷ t) spell_conj x.rest)

-- ---- nesting

pub nest_int_atom : (n : _) → nest_atom (atom.Int n) ≡ 0
nest_int_atom n = ap nest_atom (sym (atom.rolls-Int n)) ∙ fold-roll-Atom ℕ ℕ ℕ ℕ ℕ depth_atom depth_expr depth_factor depth_prod depth_signed (Atom-F.Int n)

pub nest_col_atom : (c : Col) → nest_atom (atom.Col c) ≡ 0
nest_col_atom c = ap nest_atom (sym (atom.rolls-Col c)) ∙ fold-roll-Atom ℕ ℕ ℕ ℕ ℕ depth_atom depth_expr depth_factor depth_prod depth_signed (Atom-F.Col c)

pub nest_bracket_atom : (e : Expr) → nest_atom (atom.Bracket e) ≡ suc (nest_expr e)
nest_bracket_atom e = ap nest_atom (sym (atom.rolls-Bracket e)) ∙ fold-roll-Atom ℕ ℕ ℕ ℕ ℕ depth_atom depth_expr depth_factor depth_prod depth_signed (Atom-F.Bracket e)

pub nest_factor_roll : (x : Factor-F Atom Expr Factor Prod Signed) → nest_factor (roll-Factor x) ≡ nest_atom x.atom
nest_factor_roll x = fold-roll-Factor ℕ ℕ ℕ ℕ ℕ depth_atom depth_expr depth_factor depth_prod depth_signed x

pub nest_prod_roll : (x : Prod-F Atom Expr Factor Prod Signed) → nest_prod (roll-Prod x) ≡ max (nest_factor x.first) (most (map nest_factor x.rest))
nest_prod_roll x = fold-roll-Prod ℕ ℕ ℕ ℕ ℕ depth_atom depth_expr depth_factor depth_prod depth_signed x

pub nest_signed_roll : (x : Signed-F Atom Expr Factor Prod Signed) → nest_signed (roll-Signed x) ≡ nest_prod x.prod
nest_signed_roll x = fold-roll-Signed ℕ ℕ ℕ ℕ ℕ depth_atom depth_expr depth_factor depth_prod depth_signed x

pub nest_expr_roll : (x : Expr-F Atom Expr Factor Prod Signed) → nest_expr (roll-Expr x) ≡ max (nest_prod x.first) (most (map nest_signed x.rest))
nest_expr_roll x = fold-roll-Expr ℕ ℕ ℕ ℕ ℕ depth_atom depth_expr depth_factor depth_prod depth_signed x

pub nest_bracket_pred : (c : Cond) → nest_pred (pred.Bracket c) ≡ suc (nest_cond c)
nest_bracket_pred c = ap nest_pred (sym (pred.rolls-Bracket c)) ∙ fold-roll-Pred ℕ ℕ ℕ ℕ depth_pred depth_cond depth_conj depth_neg (Pred-F.Bracket c)

pub nest_compare_pred : (left : Expr) (op : Cmp) (right : Expr) → nest_pred (pred.Compare left op right) ≡ max (nest_expr left) (nest_expr right)
nest_compare_pred left op right = ap nest_pred (sym (pred.rolls-Compare left op right)) ∙ fold-roll-Pred ℕ ℕ ℕ ℕ depth_pred depth_cond depth_conj depth_neg (Pred-F.Compare left op right)

pub nest_between_pred : (without : Bool) (value low high : Expr) → nest_pred (pred.Between without value low high) ≡ max (nest_expr value) (max (nest_expr low) (nest_expr high))
nest_between_pred without value low high = ap nest_pred (sym (pred.rolls-Between without value low high)) ∙ fold-roll-Pred ℕ ℕ ℕ ℕ depth_pred depth_cond depth_conj depth_neg (Pred-F.Between without value low high)

pub nest_among_pred : (without : Bool) (value : Expr) (list : IntList) → nest_pred (pred.Among without value list) ≡ nest_expr value
nest_among_pred without value list = ap nest_pred (sym (pred.rolls-Among without value list)) ∙ fold-roll-Pred ℕ ℕ ℕ ℕ depth_pred depth_cond depth_conj depth_neg (Pred-F.Among without value list)

pub nest_null_pred : (without : Bool) (value : Expr) → nest_pred (pred.IsNull without value) ≡ nest_expr value
nest_null_pred without value = ap nest_pred (sym (pred.rolls-IsNull without value)) ∙ fold-roll-Pred ℕ ℕ ℕ ℕ depth_pred depth_cond depth_conj depth_neg (Pred-F.IsNull without value)

pub nest_area_pred : (kind : AreaKind) (span : Span) (args : IntList) → nest_pred (pred.Area kind span args) ≡ 0
nest_area_pred kind span args = ap nest_pred (sym (pred.rolls-Area kind span args)) ∙ fold-roll-Pred ℕ ℕ ℕ ℕ depth_pred depth_cond depth_conj depth_neg (Pred-F.Area kind span args)

pub nest_chord_pred : (left right : Name) (strict : Bool) (n : ℤ) → nest_pred (pred.Chord left right strict n) ≡ 0
nest_chord_pred left right strict n = ap nest_pred (sym (pred.rolls-Chord left right strict n)) ∙ fold-roll-Pred ℕ ℕ ℕ ℕ depth_pred depth_cond depth_conj depth_neg (Pred-F.Chord left right strict n)

pub nest_neg_roll : (x : Neg-F Pred Cond Conj Neg) → nest_neg (roll-Neg x) ≡ nest_pred x.pred
nest_neg_roll x = fold-roll-Neg ℕ ℕ ℕ ℕ depth_pred depth_cond depth_conj depth_neg x

pub nest_conj_roll : (x : Conj-F Pred Cond Conj Neg) → nest_conj (roll-Conj x) ≡ max (nest_neg x.first) (most (map nest_neg x.rest))
nest_conj_roll x = fold-roll-Conj ℕ ℕ ℕ ℕ depth_pred depth_cond depth_conj depth_neg x

pub nest_cond_roll : (x : Cond-F Pred Cond Conj Neg) → nest_cond (roll-Cond x) ≡ max (nest_conj x.first) (most (map nest_conj x.rest))
nest_cond_roll x = fold-roll-Cond ℕ ℕ ℕ ℕ depth_pred depth_cond depth_conj depth_neg x

-- ---- what holds of each tree that is made of its parts holds of every tree

pub atom_cases : (P : Atom → Type 0) → ((n : ℤ) → P (atom.Int n)) → ((c : Col) → P (atom.Col c)) → ((e : Expr) → P (atom.Bracket e)) → (a : Atom) → P a
atom_cases P int col bracket a = subst P (roll-out-Atom a) (go (out-Atom a)) where
  go : (x : Atom-F Atom Expr Factor Prod Signed) → P (roll-Atom x)
  go (Atom-F.Int n) = subst P (sym (atom.rolls-Int n)) (int n)
  go (Atom-F.Col c) = subst P (sym (atom.rolls-Col c)) (col c)
  go (Atom-F.Bracket e) = subst P (sym (atom.rolls-Bracket e)) (bracket e)

pub factor_cases : (P : Factor → Type 0) → ((x : Factor-F Atom Expr Factor Prod Signed) → P (roll-Factor x)) → (f : Factor) → P f
factor_cases P h f = subst P (roll-out-Factor f) (h (out-Factor f))

pub prod_cases : (P : Prod → Type 0) → ((x : Prod-F Atom Expr Factor Prod Signed) → P (roll-Prod x)) → (p : Prod) → P p
prod_cases P h p = subst P (roll-out-Prod p) (h (out-Prod p))

pub signed_cases : (P : Signed → Type 0) → ((x : Signed-F Atom Expr Factor Prod Signed) → P (roll-Signed x)) → (s : Signed) → P s
signed_cases P h s = subst P (roll-out-Signed s) (h (out-Signed s))

pub expr_cases : (P : Expr → Type 0) → ((x : Expr-F Atom Expr Factor Prod Signed) → P (roll-Expr x)) → (e : Expr) → P e
expr_cases P h e = subst P (roll-out-Expr e) (h (out-Expr e))

pub pred_cases : (P : Pred → Type 0) → ((c : Cond) → P (pred.Bracket c)) → ((left : Expr) (op : Cmp) (right : Expr) → P (pred.Compare left op right)) → ((without : Bool) (value low high : Expr) → P (pred.Between without value low high)) → ((without : Bool) (value : Expr) (list : IntList) → P (pred.Among without value list)) → ((without : Bool) (value : Expr) → P (pred.IsNull without value)) → ((kind : AreaKind) (span : Span) (args : IntList) → P (pred.Area kind span args)) → ((left right : Name) (strict : Bool) (n : ℤ) → P (pred.Chord left right strict n)) → (p : Pred) → P p
pred_cases P on_bracket on_compare on_between on_among on_null on_area on_chord p = subst P (roll-out-Pred p) (go (out-Pred p)) where
  go : (x : Pred-F Pred Cond Conj Neg) → P (roll-Pred x)
  go (Pred-F.Bracket c) = subst P (sym (pred.rolls-Bracket c)) (on_bracket c)
  go (Pred-F.Compare left op right) = subst P (sym (pred.rolls-Compare left op right)) (on_compare left op right)
  go (Pred-F.Between without value low high) = subst P (sym (pred.rolls-Between without value low high)) (on_between without value low high)
  go (Pred-F.Among without value list) = subst P (sym (pred.rolls-Among without value list)) (on_among without value list)
  go (Pred-F.IsNull without value) = subst P (sym (pred.rolls-IsNull without value)) (on_null without value)
  go (Pred-F.Area kind span args) = subst P (sym (pred.rolls-Area kind span args)) (on_area kind span args)
  go (Pred-F.Chord left right strict n) = subst P (sym (pred.rolls-Chord left right strict n)) (on_chord left right strict n)

pub neg_cases : (P : Neg → Type 0) → ((x : Neg-F Pred Cond Conj Neg) → P (roll-Neg x)) → (n : Neg) → P n
neg_cases P h n = subst P (roll-out-Neg n) (h (out-Neg n))

pub conj_cases : (P : Conj → Type 0) → ((x : Conj-F Pred Cond Conj Neg) → P (roll-Conj x)) → (c : Conj) → P c
conj_cases P h c = subst P (roll-out-Conj c) (h (out-Conj c))

pub cond_cases : (P : Cond → Type 0) → ((x : Cond-F Pred Cond Conj Neg) → P (roll-Cond x)) → (c : Cond) → P c
cond_cases P h c = subst P (roll-out-Cond c) (h (out-Cond c))
