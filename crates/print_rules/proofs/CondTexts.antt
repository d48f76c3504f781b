-- The same of conditions.
use Rattle.std.proofs.Common.{refl, Bool, true, false, not, ◌&&◌, List, [], ◌∷◌, ◌++◌, append_assoc, codes, map, ℤ, pos}
use Rattle.std.specs.Fmt.{signed_decimal}
use Rattle.std.specs.Ordering.{int_eq}
use Rattle.sql_token.specs.declared.keyword.Keyword.TheVariants as keyword
use Rattle.sql_token.specs.declared.sign.Sign.TheVariants as sign
use Rattle.sql_tree.specs.Bare.{bare_int, bare_name, nowhere}
use Rattle.sql_tree.specs.declared.cond.Cond.{Cond}
use Rattle.sql_tree.specs.declared.cond.Conj.{Conj}
use Rattle.sql_tree.specs.declared.cond.IntList.{IntList}
use Rattle.sql_tree.specs.declared.cond.Neg.{Neg}
use Rattle.sql_tree.specs.declared.cond.Pred.{Pred}
use Rattle.sql_tree.specs.declared.cond.SignedInt.{SignedInt}
use Rattle.sql_tree.specs.declared.name.Name.{Name}
use Rattle.sql_rules.proofs.Opened.{spell_bracket_pred, spell_compare_pred, spell_between_pred}
use Rattle.sql_rules.proofs.Opened.{spell_among_pred, spell_null_pred, spell_area_pred, spell_chord_pred}
use Rattle.sql_rules.proofs.Opened.{spell_neg_roll, spell_conj_roll, spell_cond_roll}
use Rattle.sql_rules.proofs.PrintOpened.{print_bracket_pred, print_compare_pred, print_between_pred, print_among_pred}
use Rattle.sql_rules.proofs.PrintOpened.{print_null_pred, print_area_pred, print_chord_pred, print_neg_roll}
use Rattle.sql_rules.specs.Symbols.{Named, Number, Adds, Compares, AreaName, of_keyword, of_sign}
use Rattle.sql_rules.specs.PrintedConds.{print_int, print_cond, print_conj, print_neg, print_pred}
use Rattle.sql_rules.specs.PrintedExprs.{Bytes, text_if, behind_each}
use Rattle.sql_rules.specs.Spelling.{Symbols, optional, led_by}
use Rattle.sql_rules.specs.SpellingConds.{spell_int, chord_op}
use Rattle.sql_rules.specs.SpellingConds.{spell_cond, spell_conj, spell_neg, spell_pred}
use Rattle.print_rules.proofs.Bared.{shown_pred, shown_neg, shown_conj, shown_cond, shown_bracket_pred, shown_compare_pred}
use Rattle.print_rules.proofs.Bared.{shown_between_pred, shown_among_pred, shown_null_pred, shown_area_pred, shown_chord_pred}
use Rattle.print_rules.proofs.Bared.{shown_neg_roll, shown_conj_roll, shown_cond_roll, text_conj_roll, text_cond_roll}
use Rattle.print_rules.proofs.ExprTexts.{number_phrase, name_phrase, minus_phrase, expr_text}
use Rattle.print_rules.proofs.Ends.{Leads, LeadsCond, Ends, EndsCond, leads, leads_cond, ends, also_cond}
use Rattle.print_rules.proofs.Phrases.{Phrase, Tail, Out, None_left, and_tail, tail_tail, no_tail, each_tail, loosely, in_text, symbol_phrase}
use Rattle.print_rules.proofs.Phrases.{sign_tail, key_only, key_tail, not_first, brackets, bracket_tail}
use Rattle.print_rules.proofs.Walks.{each_map, CondSteps, every_cond}

-- ---- ints

-- a zero has no sign as it is printed
int_parts : (m zero' : Bool) (n : ℤ) → Phrase Leads Ends (optional m (Adds true) ++ (Number n ∷ [])) (optional (m && not zero') (Adds true) ++ (Number n ∷ [])) (text_if (m && not zero') (codes "-") ++ signed_decimal n)
int_parts true false n = minus_phrase true (number_phrase n)
int_parts true true n = let h = number_phrase n in record { thin = Out (Adds true) (Number n ∷ []) (Number n ∷ []) refl refl h.thin; says = h.says }
int_parts false zero' n = number_phrase n

int_phrase : (i : SignedInt) → Phrase Leads Ends (spell_int i) (spell_int (bare_int i)) (print_int i)
unfolding bare_int
int_phrase i = int_parts i.minus (int_eq i.size (pos 0)) i.size

-- ints, each behind a comma
further_ints : (xs : List SignedInt) → Tail Ends Ends (led_by (of_sign sign.Comma) (map spell_int xs)) (led_by (of_sign sign.Comma) (map spell_int (map bare_int xs))) (behind_each (codes ",") (map print_int xs))
further_ints [] = no_tail (λ l e. e) [] None_left
further_ints (x ∷ xs) = tail_tail (sign_tail (of_sign sign.Comma) refl refl refl (int_phrase x)) (further_ints xs)

-- what stands in brackets
inner_ints : (l : IntList) → Phrase LeadsCond Ends (spell_int l.first ++ led_by (of_sign sign.Comma) (map spell_int l.rest)) (spell_int (bare_int l.first) ++ led_by (of_sign sign.Comma) (map spell_int (map bare_int l.rest))) (print_int l.first ++ behind_each (codes ",") (map print_int l.rest))
inner_ints l = loosely (λ p x. x.leads) (λ p x. x) (and_tail (int_phrase l.first) (further_ints l.rest))

-- ---- predicates

-- nothing, behind an expression
no_tail_cond : Tail Ends EndsCond [] [] []
no_tail_cond = no_tail also_cond [] None_left

-- NOT, where it stands behind an expression, behind IS, and before a predicate
not_tail : (m : Bool) → Tail Ends EndsCond (optional m (of_keyword keyword.Not)) (optional m (of_keyword keyword.Not)) (text_if m (codes " NOT"))
not_tail true = key_only keyword.Not refl (λ l e. e.key' (of_keyword keyword.Not) refl)
not_tail false = no_tail_cond

not_then : (m : Bool) → Tail EndsCond EndsCond (optional m (of_keyword keyword.Not)) (optional m (of_keyword keyword.Not)) (text_if m (codes " NOT"))
not_then true = key_only keyword.Not refl (λ l e. e.key' (of_keyword keyword.Not) refl refl)
not_then false = no_tail (λ l e. e) [] None_left

-- what is proved of each part
abbrev PredText : Pred → Type 0
PredText p = Phrase LeadsCond EndsCond (spell_pred p) (shown_pred p) (print_pred p)

abbrev NegText : Neg → Type 0
NegText n = Phrase LeadsCond EndsCond (spell_neg n) (shown_neg n) (print_neg n)

abbrev ConjText : Conj → Type 0
ConjText c = Phrase LeadsCond EndsCond (spell_conj c) (shown_conj c) (print_conj c)

abbrev pub CondText : Cond → Type 0
CondText c = Phrase LeadsCond EndsCond (spell_cond c) (shown_cond c) (print_cond c)

not_lead : {a b : Symbols} {t : Bytes} (m : Bool) → Phrase LeadsCond EndsCond a b t → Phrase LeadsCond EndsCond (optional m (of_keyword keyword.Not) ++ a) (optional m (of_keyword keyword.Not) ++ b) (text_if m (codes "NOT ") ++ t)
not_lead true h = not_first h
not_lead false h = h

-- the two names of a chord
names_phrase : (left right : Name) → Phrase LeadsCond Ends (Named left ∷ of_sign sign.Comma ∷ Named right ∷ []) (Named (bare_name left) ∷ of_sign sign.Comma ∷ Named (bare_name right) ∷ []) (left.text ++ codes "," ++ right.text)
names_phrase left right = loosely (λ p x. x.leads) (λ p x. x) (in_text (simp append_assoc) (and_tail (name_phrase left) (sign_tail (of_sign sign.Comma) refl refl refl (name_phrase right))))

-- one step a form
cond_steps : CondSteps PredText NegText ConjText CondText
cond_steps = record {
  bracket = λ c h. rw (spell_bracket_pred c, shown_bracket_pred c, print_bracket_pred c) (loosely (λ p x. x.leads) also_cond (brackets (λ l x. x) h));
  compare = λ left op right. rw (spell_compare_pred left op right, shown_compare_pred left op right, print_compare_pred left op right)
      (in_text (simp append_assoc) (loosely (λ p x. x.leads) also_cond (and_tail (expr_text left) (sign_tail (Compares op) refl refl refl (expr_text right)))));
  between = λ without value low high. rw (spell_between_pred without value low high, shown_between_pred without value low high, print_between_pred without value low high)
      (in_text (simp append_assoc) (loosely (λ p x. x.leads) also_cond (and_tail (expr_text value) (tail_tail (not_tail without)
      (key_tail keyword.Between refl (λ l e. e.key' (of_keyword keyword.Between) refl refl) (leads (of_keyword keyword.Between) refl)
      (and_tail (expr_text low) (key_tail keyword.And refl (λ l e. e.key' (of_keyword keyword.And) refl) (leads (of_keyword keyword.And) refl) (expr_text high))))))));
  among = λ without value list. rw (spell_among_pred without value list, shown_among_pred without value list, print_among_pred without value list)
      (in_text (simp append_assoc) (loosely (λ p x. x.leads) also_cond (and_tail (expr_text value) (tail_tail (not_tail without)
      (key_tail keyword.In refl (λ l e. e.key' (of_keyword keyword.In) refl refl) (leads (of_keyword keyword.In) refl) (brackets also_cond (inner_ints list)))))));
  is_null = λ without value. rw (spell_null_pred without value, shown_null_pred without value, print_null_pred without value)
      (in_text (simp append_assoc) (loosely (λ p x. x.leads) (λ l x. x) (and_tail (expr_text value)
      (tail_tail (key_only keyword.Is refl (λ l e. e.key' (of_keyword keyword.Is) refl)) (tail_tail (not_then without) (key_only keyword.Null refl (λ l e. e.key' (of_keyword keyword.Null) refl refl)))))));
  area = λ kind span args. rw (spell_area_pred kind span args, shown_area_pred kind span args, print_area_pred kind span args)
      (loosely (λ p x. x.leads) also_cond (and_tail (symbol_phrase (AreaName kind span) refl refl refl refl (ends (AreaName kind nowhere) refl refl refl)) (bracket_tail also_cond (inner_ints args))));
  chord = λ left right strict n. rw (spell_chord_pred left right strict n, shown_chord_pred left right strict n, print_chord_pred left right strict n)
      (in_text (simp append_assoc) (loosely (λ p x. x.leads) also_cond (and_tail (symbol_phrase (of_keyword keyword.Chord2) refl refl refl refl (ends (of_keyword keyword.Chord2) refl refl refl))
      (tail_tail (bracket_tail also_cond (names_phrase left right)) (sign_tail (Compares (chord_op strict)) refl refl refl (number_phrase n))))));
  neg = λ x h. rw (spell_neg_roll x, shown_neg_roll x, print_neg_roll x) (not_lead x.not h);
  conj = λ x first rest. rw (spell_conj_roll x, shown_conj_roll x, text_conj_roll x)
      (and_tail first (each_tail (λ n. of_keyword keyword.And ∷ spell_neg n) (λ n. of_keyword keyword.And ∷ shown_neg n) (λ n. codes " AND " ++ print_neg n) x.rest
      (each_map NegText (λ n. Tail EndsCond EndsCond (of_keyword keyword.And ∷ spell_neg n) (of_keyword keyword.And ∷ shown_neg n) (codes " AND " ++ print_neg n))
      (λ n h. key_tail keyword.And refl (λ l e. e.key' (of_keyword keyword.And) refl refl) (leads_cond (of_keyword keyword.And) refl refl refl) h) x.rest rest)));
  cond = λ x first rest. rw (spell_cond_roll x, shown_cond_roll x, text_cond_roll x)
      (and_tail first (each_tail (λ c. of_keyword keyword.Or ∷ spell_conj c) (λ c. of_keyword keyword.Or ∷ shown_conj c) (λ c. codes " OR " ++ print_conj c) x.rest
      (each_map ConjText (λ c. Tail EndsCond EndsCond (of_keyword keyword.Or ∷ spell_conj c) (of_keyword keyword.Or ∷ shown_conj c) (codes " OR " ++ print_conj c))
      (λ c h. key_tail keyword.Or refl (λ l e. e.key' (of_keyword keyword.Or) refl refl) (leads_cond (of_keyword keyword.Or) refl refl refl) h) x.rest rest)));
}

-- every condition writes the text that is printed of it
pub cond_text : (c : Cond) → CondText c
cond_text = every_cond cond_steps
