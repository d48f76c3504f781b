-- What a tree without places is spelled by, and what is printed of a tree, for a tree that is made of its parts.
use Rattle.std.proofs.Common.{◌≡◌, ℤ, [], ◌∷◌, ◌++◌, map, sym, ap, ◌∙◌, Bool, true, codes}
use Rattle.std.specs.List.{flat_map}
use Rattle.sql_token.specs.declared.sign.Sign.TheVariants as sign
use Rattle.sql_token.specs.declared.keyword.Keyword.TheVariants as keyword
use Rattle.sql_token.specs.declared.token.Span.{Span}
use Rattle.sql_tree.specs.Bare.{nowhere, bare_ints, bare_name, bare_col, bare_atom_step, bare_atom, bare_expr, bare_factor}
use Rattle.sql_tree.specs.Bare.{bare_prod, bare_signed, bare_pred_step, bare_pred, bare_cond, bare_conj, bare_neg}
use Rattle.sql_tree.specs.declared.cond.AreaKind.{AreaKind}
use Rattle.sql_tree.specs.declared.cond.Cmp.{Cmp}
use Rattle.sql_tree.specs.declared.cond.Cond.{Cond, roll-Cond}
use Rattle.sql_tree.specs.declared.cond.Conj.{Conj, roll-Conj}
use Rattle.sql_tree.specs.declared.cond.IntList.{IntList}
use Rattle.sql_tree.specs.declared.cond.Neg.{Neg, roll-Neg}
use Rattle.sql_tree.specs.declared.cond.Pred.{Pred}
use Rattle.sql_tree.specs.declared.cond.Pred.TheFolds.{fold-roll-Cond, fold-roll-Conj, fold-roll-Neg, fold-roll-Pred}
use Rattle.sql_tree.specs.declared.cond.Pred.TheOpen.{Cond-F, Conj-F, Neg-F, Pred-F}
use Rattle.sql_tree.specs.declared.cond.Pred.TheVariants as pred
use Rattle.sql_tree.specs.declared.expr.Atom.{Atom}
use Rattle.sql_tree.specs.declared.expr.Atom.TheFolds.{fold-roll-Atom, fold-roll-Expr, fold-roll-Factor}
use Rattle.sql_tree.specs.declared.expr.Atom.TheFolds.{fold-roll-Prod, fold-roll-Signed}
use Rattle.sql_tree.specs.declared.expr.Atom.TheOpen.{Atom-F, Expr-F, Factor-F, Prod-F, Signed-F}
use Rattle.sql_tree.specs.declared.expr.Atom.TheVariants as atom
use Rattle.sql_tree.specs.declared.expr.Expr.{Expr, roll-Expr}
use Rattle.sql_tree.specs.declared.expr.Factor.{Factor, roll-Factor}
use Rattle.sql_tree.specs.declared.expr.Prod.{Prod, roll-Prod}
use Rattle.sql_tree.specs.declared.expr.Signed.{Signed, roll-Signed}
use Rattle.sql_tree.specs.declared.name.Col.{Col}
use Rattle.sql_tree.specs.declared.name.Name.{Name}
use Rattle.sql_rules.proofs.Opened.{flat_map-map, starred, anded, ored, spell_int_atom, spell_col_atom}
use Rattle.sql_rules.proofs.Opened.{spell_bracket_atom, spell_factor_roll, spell_prod_roll, spell_signed_roll}
use Rattle.sql_rules.proofs.Opened.{spell_expr_roll, spell_bracket_pred, spell_compare_pred, spell_between_pred}
use Rattle.sql_rules.proofs.Opened.{spell_among_pred, spell_null_pred, spell_area_pred, spell_chord_pred}
use Rattle.sql_rules.proofs.Opened.{spell_neg_roll, spell_conj_roll, spell_cond_roll}
use Rattle.sql_rules.proofs.PrintOpened.{print_prod_roll, print_expr_roll, print_conj_roll, print_cond_roll}
use Rattle.sql_rules.specs.Symbols.{of_keyword, of_sign, Named, Number, Adds, Compares, AreaName}
use Rattle.sql_rules.specs.PrintedConds.{print_cond, print_conj, print_neg}
use Rattle.sql_rules.specs.PrintedExprs.{print_expr, print_factor, print_prod, print_signed}
use Rattle.sql_rules.specs.Spelling.{Symbols, optional, bracketed, spell_col, spell_atom, spell_expr, spell_factor}
use Rattle.sql_rules.specs.Spelling.{spell_prod, spell_signed}
use Rattle.sql_rules.specs.SpellingConds.{spell_ints, chord_op, spell_cond, spell_conj, spell_neg}
use Rattle.sql_rules.specs.SpellingConds.{spell_pred}

-- ---- trees without places

pub bare_int_atom : (n : ℤ) → bare_atom (atom.Int n) ≡ atom.Int n
unfolding bare_atom bare_expr
bare_int_atom n = ap bare_atom (sym (atom.rolls-Int n)) ∙ fold-roll-Atom Atom Expr Factor Prod Signed bare_atom_step roll-Expr roll-Factor roll-Prod roll-Signed (Atom-F.Int n)

pub bare_col_atom : (c : Col) → bare_atom (atom.Col c) ≡ atom.Col (bare_col c)
unfolding bare_atom bare_expr
bare_col_atom c = ap bare_atom (sym (atom.rolls-Col c)) ∙ fold-roll-Atom Atom Expr Factor Prod Signed bare_atom_step roll-Expr roll-Factor roll-Prod roll-Signed (Atom-F.Col c)

pub bare_bracket_atom : (e : Expr) → bare_atom (atom.Bracket e) ≡ atom.Bracket (bare_expr e)
unfolding bare_atom bare_expr
bare_bracket_atom e = ap bare_atom (sym (atom.rolls-Bracket e)) ∙ fold-roll-Atom Atom Expr Factor Prod Signed bare_atom_step roll-Expr roll-Factor roll-Prod roll-Signed (Atom-F.Bracket e)

pub bare_factor_roll : (x : Factor-F Atom Expr Factor Prod Signed) → bare_factor (roll-Factor x) ≡ roll-Factor (record { minus = x.minus; atom = bare_atom x.atom })
unfolding bare_factor bare_atom
bare_factor_roll x = fold-roll-Factor Atom Expr Factor Prod Signed bare_atom_step roll-Expr roll-Factor roll-Prod roll-Signed x

pub bare_prod_roll : (x : Prod-F Atom Expr Factor Prod Signed) → bare_prod (roll-Prod x) ≡ roll-Prod (record { first = bare_factor x.first; rest = map bare_factor x.rest })
unfolding bare_prod bare_factor
bare_prod_roll x = fold-roll-Prod Atom Expr Factor Prod Signed bare_atom_step roll-Expr roll-Factor roll-Prod roll-Signed x

pub bare_signed_roll : (x : Signed-F Atom Expr Factor Prod Signed) → bare_signed (roll-Signed x) ≡ roll-Signed (record { minus = x.minus; prod = bare_prod x.prod })
unfolding bare_signed bare_prod
bare_signed_roll x = fold-roll-Signed Atom Expr Factor Prod Signed bare_atom_step roll-Expr roll-Factor roll-Prod roll-Signed x

pub bare_expr_roll : (x : Expr-F Atom Expr Factor Prod Signed) → bare_expr (roll-Expr x) ≡ roll-Expr (record { first = bare_prod x.first; rest = map bare_signed x.rest })
unfolding bare_expr bare_prod bare_signed
bare_expr_roll x = fold-roll-Expr Atom Expr Factor Prod Signed bare_atom_step roll-Expr roll-Factor roll-Prod roll-Signed x

pub bare_bracket_pred : (c : Cond) → bare_pred (pred.Bracket c) ≡ pred.Bracket (bare_cond c)
unfolding bare_pred bare_cond
bare_bracket_pred c = ap bare_pred (sym (pred.rolls-Bracket c)) ∙ fold-roll-Pred Pred Cond Conj Neg bare_pred_step roll-Cond roll-Conj roll-Neg (Pred-F.Bracket c)

pub bare_compare_pred : (left : Expr) (op : Cmp) (right : Expr) → bare_pred (pred.Compare left op right) ≡ pred.Compare (bare_expr left) op (bare_expr right)
unfolding bare_pred bare_cond
bare_compare_pred left op right = ap bare_pred (sym (pred.rolls-Compare left op right)) ∙ fold-roll-Pred Pred Cond Conj Neg bare_pred_step roll-Cond roll-Conj roll-Neg (Pred-F.Compare left op right)

pub bare_between_pred : (without : Bool) (value low high : Expr) → bare_pred (pred.Between without value low high) ≡ pred.Between without (bare_expr value) (bare_expr low) (bare_expr high)
unfolding bare_pred bare_cond
bare_between_pred without value low high = ap bare_pred (sym (pred.rolls-Between without value low high)) ∙ fold-roll-Pred Pred Cond Conj Neg bare_pred_step roll-Cond roll-Conj roll-Neg (Pred-F.Between without value low high)

pub bare_among_pred : (without : Bool) (value : Expr) (list : IntList) → bare_pred (pred.Among without value list) ≡ pred.Among without (bare_expr value) (bare_ints list)
unfolding bare_pred bare_cond
bare_among_pred without value list = ap bare_pred (sym (pred.rolls-Among without value list)) ∙ fold-roll-Pred Pred Cond Conj Neg bare_pred_step roll-Cond roll-Conj roll-Neg (Pred-F.Among without value list)

pub bare_null_pred : (without : Bool) (value : Expr) → bare_pred (pred.IsNull without value) ≡ pred.IsNull without (bare_expr value)
unfolding bare_pred bare_cond
bare_null_pred without value = ap bare_pred (sym (pred.rolls-IsNull without value)) ∙ fold-roll-Pred Pred Cond Conj Neg bare_pred_step roll-Cond roll-Conj roll-Neg (Pred-F.IsNull without value)

pub bare_area_pred : (kind : AreaKind) (span : Span) (args : IntList) → bare_pred (pred.Area kind span args) ≡ pred.Area kind nowhere (bare_ints args)
unfolding bare_pred bare_cond
bare_area_pred kind span args = ap bare_pred (sym (pred.rolls-Area kind span args)) ∙ fold-roll-Pred Pred Cond Conj Neg bare_pred_step roll-Cond roll-Conj roll-Neg (Pred-F.Area kind span args)

pub bare_chord_pred : (left right : Name) (strict : Bool) (n : ℤ) → bare_pred (pred.Chord left right strict n) ≡ pred.Chord (bare_name left) (bare_name right) strict n
unfolding bare_pred bare_cond
bare_chord_pred left right strict n = ap bare_pred (sym (pred.rolls-Chord left right strict n)) ∙ fold-roll-Pred Pred Cond Conj Neg bare_pred_step roll-Cond roll-Conj roll-Neg (Pred-F.Chord left right strict n)

pub bare_neg_roll : (x : Neg-F Pred Cond Conj Neg) → bare_neg (roll-Neg x) ≡ roll-Neg (record { not = x.not; pred = bare_pred x.pred })
unfolding bare_neg bare_pred
bare_neg_roll x = fold-roll-Neg Pred Cond Conj Neg bare_pred_step roll-Cond roll-Conj roll-Neg x

pub bare_conj_roll : (x : Conj-F Pred Cond Conj Neg) → bare_conj (roll-Conj x) ≡ roll-Conj (record { first = bare_neg x.first; rest = map bare_neg x.rest })
unfolding bare_conj bare_neg
bare_conj_roll x = fold-roll-Conj Pred Cond Conj Neg bare_pred_step roll-Cond roll-Conj roll-Neg x

pub bare_cond_roll : (x : Cond-F Pred Cond Conj Neg) → bare_cond (roll-Cond x) ≡ roll-Cond (record { first = bare_conj x.first; rest = map bare_conj x.rest })
unfolding bare_cond bare_conj
bare_cond_roll x = fold-roll-Cond Pred Cond Conj Neg bare_pred_step roll-Cond roll-Conj roll-Neg x

-- ---- what spells them

abbrev pub shown_atom : Atom → Symbols
shown_atom a = spell_atom (bare_atom a)

abbrev pub shown_factor : Factor → Symbols
shown_factor f = spell_factor (bare_factor f)

abbrev pub shown_prod : Prod → Symbols
shown_prod p = spell_prod (bare_prod p)

abbrev pub shown_signed : Signed → Symbols
shown_signed s = spell_signed (bare_signed s)

abbrev pub shown_expr : Expr → Symbols
shown_expr e = spell_expr (bare_expr e)

pub shown_int_atom : (n : ℤ) → shown_atom (atom.Int n) ≡ Number n ∷ []
shown_int_atom n = ap spell_atom (bare_int_atom n) ∙ spell_int_atom n

pub shown_col_atom : (c : Col) → shown_atom (atom.Col c) ≡ spell_col (bare_col c)
shown_col_atom c = ap spell_atom (bare_col_atom c) ∙ spell_col_atom (bare_col c)

pub shown_bracket_atom : (e : Expr) → shown_atom (atom.Bracket e) ≡ bracketed (shown_expr e)
shown_bracket_atom e = ap spell_atom (bare_bracket_atom e) ∙ spell_bracket_atom (bare_expr e)

pub shown_factor_roll : (x : Factor-F Atom Expr Factor Prod Signed) → shown_factor (roll-Factor x) ≡ optional x.minus (Adds true) ++ shown_atom x.atom
shown_factor_roll x = ap spell_factor (bare_factor_roll x) ∙ spell_factor_roll (record { minus = x.minus; atom = bare_atom x.atom })

pub shown_prod_roll : (x : Prod-F Atom Expr Factor Prod Signed) → shown_prod (roll-Prod x) ≡ shown_factor x.first ++ flat_map (λ f. of_sign sign.Star ∷ shown_factor f) x.rest
shown_prod_roll x = ap spell_prod (bare_prod_roll x) ∙ spell_prod_roll (record { first = bare_factor x.first; rest = map bare_factor x.rest }) ∙ ap (λ t. shown_factor x.first ++ t) (flat_map-map starred bare_factor x.rest)

pub shown_signed_roll : (x : Signed-F Atom Expr Factor Prod Signed) → shown_signed (roll-Signed x) ≡ Adds x.minus ∷ shown_prod x.prod
shown_signed_roll x = ap spell_signed (bare_signed_roll x) ∙ spell_signed_roll (record { minus = x.minus; prod = bare_prod x.prod })

pub shown_expr_roll : (x : Expr-F Atom Expr Factor Prod Signed) → shown_expr (roll-Expr x) ≡ shown_prod x.first ++ flat_map shown_signed x.rest
shown_expr_roll x = ap spell_expr (bare_expr_roll x) ∙ spell_expr_roll (record { first = bare_prod x.first; rest = map bare_signed x.rest }) ∙ ap (λ t. shown_prod x.first ++ t) (flat_map-map spell_signed bare_signed x.rest)

abbrev pub shown_ints : IntList → Symbols
shown_ints l = spell_ints (bare_ints l)

abbrev pub shown_pred : Pred → Symbols
shown_pred p = spell_pred (bare_pred p)

abbrev pub shown_neg : Neg → Symbols
shown_neg n = spell_neg (bare_neg n)

abbrev pub shown_conj : Conj → Symbols
shown_conj c = spell_conj (bare_conj c)

abbrev pub shown_cond : Cond → Symbols
shown_cond c = spell_cond (bare_cond c)

pub shown_bracket_pred : (c : Cond) → shown_pred (pred.Bracket c) ≡ bracketed (shown_cond c)
shown_bracket_pred c = ap spell_pred (bare_bracket_pred c) ∙ spell_bracket_pred (bare_cond c)

pub shown_compare_pred : (left : Expr) (op : Cmp) (right : Expr) → shown_pred (pred.Compare left op right) ≡ shown_expr left ++ (Compares op ∷ shown_expr right)
shown_compare_pred left op right = ap spell_pred (bare_compare_pred left op right) ∙ spell_compare_pred (bare_expr left) op (bare_expr right)

pub shown_between_pred : (without : Bool) (value low high : Expr) → shown_pred (pred.Between without value low high) ≡ shown_expr value ++ (optional without (of_keyword keyword.Not) ++ (of_keyword keyword.Between ∷ (shown_expr low ++ (of_keyword keyword.And ∷ shown_expr high))))
shown_between_pred without value low high = ap spell_pred (bare_between_pred without value low high) ∙ spell_between_pred without (bare_expr value) (bare_expr low) (bare_expr high)

pub shown_among_pred : (without : Bool) (value : Expr) (list : IntList) → shown_pred (pred.Among without value list) ≡ shown_expr value ++ (optional without (of_keyword keyword.Not) ++ (of_keyword keyword.In ∷ shown_ints list))
shown_among_pred without value list = ap spell_pred (bare_among_pred without value list) ∙ spell_among_pred without (bare_expr value) (bare_ints list)

pub shown_null_pred : (without : Bool) (value : Expr) → shown_pred (pred.IsNull without value) ≡ shown_expr value ++ (of_keyword keyword.Is ∷ (optional without (of_keyword keyword.Not) ++ (of_keyword keyword.Null ∷ [])))
shown_null_pred without value = ap spell_pred (bare_null_pred without value) ∙ spell_null_pred without (bare_expr value)

pub shown_area_pred : (kind : AreaKind) (span : Span) (args : IntList) → shown_pred (pred.Area kind span args) ≡ AreaName kind nowhere ∷ shown_ints args
shown_area_pred kind span args = ap spell_pred (bare_area_pred kind span args) ∙ spell_area_pred kind nowhere (bare_ints args)

pub shown_chord_pred : (left right : Name) (strict : Bool) (n : ℤ) → shown_pred (pred.Chord left right strict n) ≡ of_keyword keyword.Chord2 ∷ (bracketed (Named (bare_name left) ∷ of_sign sign.Comma ∷ Named (bare_name right) ∷ []) ++ (Compares (chord_op strict) ∷ Number n ∷ []))
shown_chord_pred left right strict n = ap spell_pred (bare_chord_pred left right strict n) ∙ spell_chord_pred (bare_name left) (bare_name right) strict n

pub shown_neg_roll : (x : Neg-F Pred Cond Conj Neg) → shown_neg (roll-Neg x) ≡ optional x.not (of_keyword keyword.Not) ++ shown_pred x.pred
shown_neg_roll x = ap spell_neg (bare_neg_roll x) ∙ spell_neg_roll (record { not = x.not; pred = bare_pred x.pred })

pub shown_conj_roll : (x : Conj-F Pred Cond Conj Neg) → shown_conj (roll-Conj x) ≡ shown_neg x.first ++ flat_map (λ n. of_keyword keyword.And ∷ shown_neg n) x.rest
shown_conj_roll x = ap spell_conj (bare_conj_roll x) ∙ spell_conj_roll (record { first = bare_neg x.first; rest = map bare_neg x.rest }) ∙ ap (λ t. shown_neg x.first ++ t) (flat_map-map anded bare_neg x.rest)

pub shown_cond_roll : (x : Cond-F Pred Cond Conj Neg) → shown_cond (roll-Cond x) ≡ shown_conj x.first ++ flat_map (λ c. of_keyword keyword.Or ∷ shown_conj c) x.rest
shown_cond_roll x = ap spell_cond (bare_cond_roll x) ∙ spell_cond_roll (record { first = bare_conj x.first; rest = map bare_conj x.rest }) ∙ ap (λ t. shown_conj x.first ++ t) (flat_map-map ored bare_conj x.rest)

-- ---- what is printed of several parts

pub text_prod_roll : (x : Prod-F Atom Expr Factor Prod Signed) → print_prod (roll-Prod x) ≡ print_factor x.first ++ flat_map (λ f. codes "*" ++ print_factor f) x.rest
text_prod_roll x = print_prod_roll x ∙ ap (λ t. print_factor x.first ++ t) (flat_map-map (λ t. codes "*" ++ t) print_factor x.rest)

pub text_expr_roll : (x : Expr-F Atom Expr Factor Prod Signed) → print_expr (roll-Expr x) ≡ print_prod x.first ++ flat_map print_signed x.rest
text_expr_roll x = print_expr_roll x ∙ ap (λ t. print_prod x.first ++ t) (flat_map-map (λ t. t) print_signed x.rest)

pub text_conj_roll : (x : Conj-F Pred Cond Conj Neg) → print_conj (roll-Conj x) ≡ print_neg x.first ++ flat_map (λ n. codes " AND " ++ print_neg n) x.rest
text_conj_roll x = print_conj_roll x ∙ ap (λ t. print_neg x.first ++ t) (flat_map-map (λ t. codes " AND " ++ t) print_neg x.rest)

pub text_cond_roll : (x : Cond-F Pred Cond Conj Neg) → print_cond (roll-Cond x) ≡ print_conj x.first ++ flat_map (λ c. codes " OR " ++ print_conj c) x.rest
text_cond_roll x = print_cond_roll x ∙ ap (λ t. print_conj x.first ++ t) (flat_map-map (λ t. codes " OR " ++ t) print_conj x.rest)
