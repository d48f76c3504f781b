-- What an expression is spelled by, as it is printed, writes the text that is printed.
use Rattle.std.proofs.Common.{refl, Bool, true, false, [], ◌∷◌, ◌++◌, Option, None, Some, append_assoc, codes, option_map}
use Rattle.std.specs.Fmt.{signed_decimal}
use Rattle.sql_token.specs.declared.sign.Sign.TheVariants as sign
use Rattle.sql_tree.specs.Bare.{bare_name, bare_col}
use Rattle.sql_tree.specs.declared.expr.Atom.{Atom}
use Rattle.sql_tree.specs.declared.expr.Expr.{Expr}
use Rattle.sql_tree.specs.declared.expr.Factor.{Factor}
use Rattle.sql_tree.specs.declared.expr.Prod.{Prod}
use Rattle.sql_tree.specs.declared.expr.Signed.{Signed}
use Rattle.sql_tree.specs.declared.name.Col.{Col}
use Rattle.sql_tree.specs.declared.name.Name.{Name}
use Rattle.sql_rules.proofs.Opened.{spell_int_atom, spell_col_atom, spell_bracket_atom, spell_factor_roll}
use Rattle.sql_rules.proofs.Opened.{spell_prod_roll, spell_signed_roll, spell_expr_roll}
use Rattle.sql_rules.proofs.PrintOpened.{print_int_atom, print_col_atom, print_bracket_atom, print_factor_roll, print_signed_roll}
use Rattle.sql_rules.specs.Symbols.{Named, Number, Adds, of_sign}
use Rattle.sql_rules.specs.PrintedExprs.{Bytes, text_if, print_qualifier, print_col, print_atom, print_expr, print_factor, print_prod, print_signed}
use Rattle.sql_rules.specs.Spelling.{Symbols, optional, spell_qualifier, spell_col, spell_atom, spell_expr}
use Rattle.sql_rules.specs.Spelling.{spell_factor, spell_prod, spell_signed}
use Rattle.print_rules.proofs.Bared.{shown_atom, shown_factor, shown_prod, shown_signed, shown_expr, shown_int_atom, shown_col_atom}
use Rattle.print_rules.proofs.Bared.{shown_bracket_atom, shown_factor_roll, shown_prod_roll, shown_signed_roll, shown_expr_roll}
use Rattle.print_rules.proofs.Bared.{text_prod_roll, text_expr_roll}
use Rattle.print_rules.proofs.Ends.{Leads, Ends, EndsName, ends, ends_name, also_cond}
use Rattle.print_rules.proofs.Phrases.{Phrase, Tail, and_tail, each_tail, loosely, in_text, symbol_phrase, sign_lead, sign_tail, brackets}
use Rattle.print_rules.proofs.Walks.{each_map, ExprSteps, every_expr}

-- an int, and a name
pub number_phrase : (n : _) → Phrase Leads Ends (Number n ∷ []) (Number n ∷ []) (signed_decimal n)
number_phrase n = symbol_phrase (Number n) refl refl refl refl (ends (Number n) refl refl refl)

pub word_phrase : (n : Name) → Phrase Leads EndsName (Named n ∷ []) (Named (bare_name n) ∷ []) n.text
word_phrase n = symbol_phrase (Named n) refl refl refl refl (ends_name (Named (bare_name n)) refl refl refl refl)

-- a name, of which less is asked
pub name_phrase : (n : Name) → Phrase Leads Ends (Named n ∷ []) (Named (bare_name n) ∷ []) n.text
name_phrase n = loosely (λ p l. l) (λ l e. e.ends) (word_phrase n)

-- a column, with or without its qualifier
col_parts : (t : Option Name) (n : Name) → Phrase Leads Ends (spell_qualifier t ++ (Named n ∷ [])) (spell_qualifier (option_map bare_name t) ++ (Named (bare_name n) ∷ [])) (print_qualifier t ++ n.text)
col_parts None n = name_phrase n
col_parts (Some t) n = in_text (simp append_assoc) (and_tail (name_phrase t) (sign_tail (of_sign sign.Dot) refl refl refl (name_phrase n)))

pub col_phrase : (c : Col) → Phrase Leads Ends (spell_col c) (spell_col (bare_col c)) (print_col c)
col_phrase c = col_parts c.table c.name

-- a part that may have a minus before it
pub minus_phrase : {E : _} {a b : Symbols} {t : Bytes} (m : Bool) → Phrase Leads E a b t → Phrase Leads E (optional m (Adds true) ++ a) (optional m (Adds true) ++ b) (text_if m (codes "-") ++ t)
minus_phrase true h = sign_lead (Adds true) refl refl refl refl refl h
minus_phrase false h = h

-- ---- what is proved of each part

abbrev AtomText : Atom → Type 0
AtomText a = Phrase Leads Ends (spell_atom a) (shown_atom a) (print_atom a)

abbrev FactorText : Factor → Type 0
FactorText f = Phrase Leads Ends (spell_factor f) (shown_factor f) (print_factor f)

abbrev ProdText : Prod → Type 0
ProdText p = Phrase Leads Ends (spell_prod p) (shown_prod p) (print_prod p)

abbrev SignedText : Signed → Type 0
SignedText s = Tail Ends Ends (spell_signed s) (shown_signed s) (print_signed s)

abbrev pub ExprText : Expr → Type 0
ExprText e = Phrase Leads Ends (spell_expr e) (shown_expr e) (print_expr e)

-- one step a rule
expr_steps : ExprSteps AtomText FactorText ProdText SignedText ExprText
expr_steps = record {
  int = λ n. rw (spell_int_atom n, shown_int_atom n, print_int_atom n) (number_phrase n);
  col = λ c. rw (spell_col_atom c, shown_col_atom c, print_col_atom c) (col_phrase c);
  bracket = λ e h. rw (spell_bracket_atom e, shown_bracket_atom e, print_bracket_atom e) (brackets also_cond (loosely (λ p l. l.leads) (λ l x. x) h));
  factor = λ x h. rw (spell_factor_roll x, shown_factor_roll x, print_factor_roll x) (minus_phrase x.minus h);
  prod = λ x first rest. rw (spell_prod_roll x, shown_prod_roll x, text_prod_roll x)
      (and_tail first (each_tail (λ f. of_sign sign.Star ∷ spell_factor f) (λ f. of_sign sign.Star ∷ shown_factor f) (λ f. codes "*" ++ print_factor f) x.rest
      (each_map FactorText (λ f. Tail Ends Ends (of_sign sign.Star ∷ spell_factor f) (of_sign sign.Star ∷ shown_factor f) (codes "*" ++ print_factor f)) (λ f h. sign_tail (of_sign sign.Star) refl refl refl h) x.rest rest)));
  signed = λ x h. rw (spell_signed_roll x, shown_signed_roll x, print_signed_roll x) (sign_tail (Adds x.minus) refl refl refl h);
  expr = λ x first rest. rw (spell_expr_roll x, shown_expr_roll x, text_expr_roll x) (and_tail first (each_tail spell_signed shown_signed print_signed x.rest rest));
}

-- every expression writes the text that is printed of it
pub expr_text : (e : Expr) → ExprText e
expr_text = every_expr expr_steps
