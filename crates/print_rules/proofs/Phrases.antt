-- Parts of a query: what spells them, what spells them as they are printed, and their text.
use Rattle.std.proofs.Common.{◌≡◌, refl, sym, ap, ◌∙◌, subst, Bool, true, false, List, [], ◌∷◌, ◌++◌, append_assoc, codes}
use Rattle.std.specs.List.{flat_map}
use Rattle.sql_token.specs.declared.keyword.Keyword.{Keyword}
use Rattle.sql_token.specs.declared.keyword.Keyword.TheVariants as keyword
use Rattle.sql_token.specs.declared.sign.Sign.TheVariants as sign
use Rattle.sql_tree.specs.Bare.{bare_name}
use Rattle.sql_tree.specs.declared.name.Name.{Name}
use Rattle.sql_rules.proofs.Within.{lifts, drops}
use Rattle.sql_rules.specs.Symbols.{Symbol, Named, of_keyword, of_sign}
use Rattle.sql_rules.specs.PrintedExprs.{Bytes, in_brackets}
use Rattle.sql_rules.specs.Spelling.{Symbols, bracketed}
use Rattle.print_rules.specs.Spaced.{symbol_text, keyword_text, is_wordlike, is_comparison, bare_symbol}
use Rattle.print_rules.specs.Gaps.{is_lone, is_lone_key, is_close, gap}
use Rattle.print_rules.proofs.Ends.{behind, space, Leads, LeadsCond, Ends, EndsCond, EndsName}
use Rattle.print_rules.proofs.Ends.{leads, leads_cond, ends, ends_key}
use Rattle.print_rules.proofs.Walks.{Each}

-- The second are the first without places, and without some symbols that are no brackets.
pub data Thin : Symbols → Symbols → Type 0 where
  None_left : Thin [] []
  Kept : (p : Symbol) (ps qs : Symbols) → Thin ps qs → Thin (p ∷ ps) (bare_symbol p ∷ qs)
  Out : (p : Symbol) (ps qs : Symbols) → lifts p ≡ false → drops p ≡ false → Thin ps qs → Thin (p ∷ ps) qs

-- parts one behind another
thin_both : (a a' b b' : Symbols) → Thin a a' → Thin b b' → Thin (a ++ b) (a' ++ b')
thin_both a a' b b' None_left more = more
thin_both a a' b b' (Kept p ps qs t) more = Kept p (ps ++ b) (qs ++ b') (thin_both ps qs b b' t more)
thin_both a a' b b' (Out p ps qs x y t) more = Out p (ps ++ b) (qs ++ b') x y (thin_both ps qs b b' t more)

-- The text is this front, and then the rest behind a symbol that ends so.
pub record Says (E : Symbol → Type 0) (text front : Bytes) (rest : Symbols) : Type 0 where
  pub last : Symbol
  pub ends : E last
  pub is : text ≡ front ++ behind last rest

-- The part of a query behind a symbol that leads so: its text comes behind a space where that symbol is a keyword.
pub record Phrase (L E : Symbol → Type 0) (a b : Symbols) (t : Bytes) : Type 0 where
  pub thin : Thin a b
  pub says : (p : Symbol) (rest : Symbols) → L p → Says E (behind p (b ++ rest)) (space (is_lone p) ++ t) rest

-- The part of a query behind a symbol that ends so: its text has its own space.
pub record Tail (L E : Symbol → Type 0) (a b : Symbols) (t : Bytes) : Type 0 where
  pub thin : Thin a b
  pub says : (p : Symbol) (rest : Symbols) → L p → Says E (behind p (b ++ rest)) t rest

joined : (s t u x y z : Bytes) → x ≡ (s ++ t) ++ y → y ≡ u ++ z → x ≡ (s ++ (t ++ u)) ++ z
joined s t u x y z e f = e ∙ ap (λ k. (s ++ t) ++ k) f ∙ simp append_assoc

-- a part and what comes behind it
pub and_tail : {L E F : Symbol → Type 0} {a a' b b' : Symbols} {t u : Bytes} → Phrase L E a a' t → Tail E F b b' u → Phrase L F (a ++ b) (a' ++ b') (t ++ u)
and_tail {L} {E} {F} {a} {a'} {b} {b'} {t} {u} h k = record {
  thin = thin_both a a' b b' h.thin k.thin;
  says = λ p rest lead.
      let one = h.says p (b' ++ rest) lead in
      let two = k.says one.last rest one.ends in
      record { last = two.last; ends = two.ends; is = ap (behind p) (append_assoc a' b' rest) ∙ joined (space (is_lone p)) t u _ _ (behind two.last rest) one.is two.is };
}

-- two that come behind
pub tail_tail : {L E F : Symbol → Type 0} {a a' b b' : Symbols} {t u : Bytes} → Tail L E a a' t → Tail E F b b' u → Tail L F (a ++ b) (a' ++ b') (t ++ u)
tail_tail {L} {E} {F} {a} {a'} {b} {b'} {t} {u} h k = record {
  thin = thin_both a a' b b' h.thin k.thin;
  says = λ p rest lead.
      let one = h.says p (b' ++ rest) lead in
      let two = k.says one.last rest one.ends in
      record { last = two.last; ends = two.ends; is = ap (behind p) (append_assoc a' b' rest) ∙ joined [] t u _ _ (behind two.last rest) one.is two.is };
}

-- nothing, whatever is left out
pub no_tail : {E F : Symbol → Type 0} → ((l : Symbol) → E l → F l) → (a : Symbols) → Thin a [] → Tail E F a [] []
no_tail weaker a thin = record { thin = thin; says = λ p rest lead. record { last = p; ends = weaker p lead; is = refl } }

-- several
pub each_tail : {A : Type 0} {E : Symbol → Type 0} (f g : A → Symbols) (h : A → Bytes) (xs : List A) → Each (λ x. Tail E E (f x) (g x) (h x)) xs → Tail E E (flat_map f xs) (flat_map g xs) (flat_map h xs)
each_tail f g h [] each = no_tail (λ l e. e) [] None_left
each_tail f g h (x ∷ xs) each = tail_tail each.0 (each_tail f g h xs each.1)

-- the same part, of which less is asked or said
pub loosely : {L M E F : Symbol → Type 0} {a b : Symbols} {t : Bytes} → ((p : Symbol) → M p → L p) → ((l : Symbol) → E l → F l) → Phrase L E a b t → Phrase M F a b t
loosely stronger weaker h = record {
  thin = h.thin;
  says = λ p rest lead. let one = h.says p rest (stronger p lead) in record { last = one.last; ends = weaker one.last one.ends; is = one.is };
}

pub tail_loosely : {L M E F : Symbol → Type 0} {a b : Symbols} {t : Bytes} → ((p : Symbol) → M p → L p) → ((l : Symbol) → E l → F l) → Tail L E a b t → Tail M F a b t
tail_loosely stronger weaker h = record {
  thin = h.thin;
  says = λ p rest lead. let one = h.says p rest (stronger p lead) in record { last = one.last; ends = weaker one.last one.ends; is = one.is };
}

-- the same part, its text in another form
pub in_text : {L E : Symbol → Type 0} {a b : Symbols} {t u : Bytes} → t ≡ u → Phrase L E a b t → Phrase L E a b u
in_text e h = rw (← e) h

pub tail_text : {L E : Symbol → Type 0} {a b : Symbols} {t u : Bytes} → t ≡ u → Tail L E a b t → Tail L E a b u
tail_text e h = rw (← e) h

-- ---- single symbols

-- a symbol that has no space of its own
pub symbol_phrase : {E : Symbol → Type 0} (q : Symbol) → is_lone (bare_symbol q) ≡ false → is_close (bare_symbol q) ≡ false → is_comparison (bare_symbol q) ≡ false → symbol_text (bare_symbol q) ≡ symbol_text q → E (bare_symbol q) → Phrase Leads E (q ∷ []) (bare_symbol q ∷ []) (symbol_text q)
symbol_phrase q lone drop comp same end = record {
  thin = Kept q [] [] None_left;
  says = λ p rest lead. record { last = bare_symbol q; ends = end; is = rw (lead.is (bare_symbol q) lone drop comp, same) refl };
}

kept : (s : Symbol) (a b : Symbols) → bare_symbol s ≡ s → Thin a b → Thin (s ∷ a) (s ∷ b)
kept s a b bare t = subst (λ x. Thin (s ∷ a) (x ∷ b)) bare (Kept s a b t)

unspaced : (b : Bool) (t y : Bytes) → b ≡ false → (space b ++ t) ++ y ≡ t ++ y
unspaced false t y e = refl
unspaced true t y e = absurd cc

-- a name behind a name
pub name_tail : (n : Name) → Tail EndsName Ends (Named n ∷ []) (Named (bare_name n) ∷ []) (codes " " ++ n.text)
name_tail n = record {
  thin = Kept (Named n) [] [] None_left;
  says = λ p rest end. record { last = Named (bare_name n); ends = ends (Named (bare_name n)) refl refl refl; is = rw (end.name' (Named (bare_name n)) refl) refl };
}

-- a sign before a part
pub sign_lead : {E : Symbol → Type 0} {a b : Symbols} {t : Bytes} (s : Symbol) → is_lone s ≡ false → is_close s ≡ false → is_comparison s ≡ false → is_wordlike s ≡ false → bare_symbol s ≡ s → Phrase Leads E a b t → Phrase Leads E (s ∷ a) (s ∷ b) (symbol_text s ++ t)
sign_lead {E} {a} {b} {t} s lone drop comp word bare h = record {
  thin = kept s a b bare h.thin;
  says = λ p rest lead.
      let one = h.says s rest (leads s (word ∙ sym lone)) in
      let whole : behind s (b ++ rest) ≡ t ++ behind one.last rest = one.is ∙ unspaced (is_lone s) t (behind one.last rest) lone in
      record { last = one.last; ends = one.ends; is = rw (lead.is s lone drop comp, whole) (simp append_assoc) };
}

-- a sign before a part, behind another
pub sign_tail : {E : Symbol → Type 0} {a b : Symbols} {t : Bytes} (s : Symbol) → is_lone s ≡ false → is_wordlike s ≡ false → bare_symbol s ≡ s → Phrase Leads E a b t → Tail Ends E (s ∷ a) (s ∷ b) (symbol_text s ++ t)
sign_tail {E} {a} {b} {t} s lone word bare h = record {
  thin = kept s a b bare h.thin;
  says = λ p rest end.
      let one = h.says s rest (leads s (word ∙ sym lone)) in
      let whole : behind s (b ++ rest) ≡ t ++ behind one.last rest = one.is ∙ unspaced (is_lone s) t (behind one.last rest) lone in
      record { last = one.last; ends = one.ends; is = rw (end.sign' s lone word, whole) (simp append_assoc) };
}

-- ---- keywords

-- a keyword alone
pub key_only : {L : Symbol → Type 0} (k : Keyword) → is_lone_key k ≡ true → ((l : Symbol) → L l → gap l (of_keyword k) ≡ true) → Tail L EndsCond (of_keyword k ∷ []) (of_keyword k ∷ []) (codes " " ++ keyword_text k)
key_only k lone spaced = record {
  thin = Kept (of_keyword k) [] [] None_left;
  says = λ p rest end. record { last = of_keyword k; ends = ends_key k lone; is = rw (spaced p end) refl };
}

-- a keyword before a part
pub key_tail : {L M E : Symbol → Type 0} {a b : Symbols} {t : Bytes} (k : Keyword) → is_lone_key k ≡ true → ((l : Symbol) → L l → gap l (of_keyword k) ≡ true) → M (of_keyword k) → Phrase M E a b t → Tail L E (of_keyword k ∷ a) (of_keyword k ∷ b) ((codes " " ++ keyword_text k ++ codes " ") ++ t)
key_tail {L} {M} {E} {a} {b} {t} k lone spaced lead h = record {
  thin = Kept (of_keyword k) a b h.thin;
  says = λ p rest end.
      let one = h.says (of_keyword k) rest lead in
      let whole : behind (of_keyword k) (b ++ rest) ≡ (codes " " ++ t) ++ behind one.last rest = one.is ∙ ap (λ x. (space x ++ t) ++ behind one.last rest) lone in
      record { last = one.last; ends = one.ends; is = rw (spaced p end, whole) (simp append_assoc) };
}

-- NOT before a condition
pub not_first : {E : Symbol → Type 0} {a b : Symbols} {t : Bytes} → Phrase LeadsCond E a b t → Phrase LeadsCond E (of_keyword keyword.Not ∷ a) (of_keyword keyword.Not ∷ b) (codes "NOT " ++ t)
not_first {E} {a} {b} {t} h = record {
  thin = Kept (of_keyword keyword.Not) a b h.thin;
  says = λ p rest lead.
      let one = h.says (of_keyword keyword.Not) rest (leads_cond (of_keyword keyword.Not) refl refl refl) in
      record { last = one.last; ends = one.ends; is = rw (lead.without, one.is) (simp append_assoc) };
}

-- ---- brackets

-- what follows an opening bracket
closed : {E : Symbol → Type 0} {a b : Symbols} {t : Bytes} → ((l : Symbol) → E l → EndsCond l) → Phrase LeadsCond E a b t → (rest : Symbols) → behind (of_sign sign.Open) ((b ++ (of_sign sign.Close ∷ [])) ++ rest) ≡ (t ++ codes ")") ++ behind (of_sign sign.Close) rest
closed {E} {a} {b} {t} weaker h rest =
    let one = h.says (of_sign sign.Open) (of_sign sign.Close ∷ rest) (leads_cond (of_sign sign.Open) refl refl refl) in
    let end = (weaker one.last one.ends).close in
    ap (behind (of_sign sign.Open)) (append_assoc b (of_sign sign.Close ∷ []) rest) ∙ one.is ∙ rw end (simp append_assoc)

-- brackets are kept
round : {L E : Symbol → Type 0} {a b : Symbols} {t : Bytes} → Phrase L E a b t → Thin (bracketed a) (bracketed b)
round {L} {E} {a} {b} h = Kept (of_sign sign.Open) _ _ (thin_both a b (of_sign sign.Close ∷ []) (of_sign sign.Close ∷ []) h.thin (Kept (of_sign sign.Close) [] [] None_left))

-- brackets, as a part and behind a part
pub brackets : {E : Symbol → Type 0} {a b : Symbols} {t : Bytes} → ((l : Symbol) → E l → EndsCond l) → Phrase LeadsCond E a b t → Phrase Leads Ends (bracketed a) (bracketed b) (in_brackets t)
brackets weaker h = record {
  thin = round h;
  says = λ p rest lead. record {
    last = of_sign sign.Close;
    ends = ends (of_sign sign.Close) refl refl refl;
    is = rw (lead.is (of_sign sign.Open) refl refl refl, closed weaker h rest) (simp append_assoc);
  };
}

pub bracket_tail : {E : Symbol → Type 0} {a b : Symbols} {t : Bytes} → ((l : Symbol) → E l → EndsCond l) → Phrase LeadsCond E a b t → Tail Ends Ends (bracketed a) (bracketed b) (in_brackets t)
bracket_tail weaker h = record {
  thin = round h;
  says = λ p rest end. record {
    last = of_sign sign.Close;
    ends = ends (of_sign sign.Close) refl refl refl;
    is = rw (end.sign' (of_sign sign.Open) refl refl, closed weaker h rest) (simp append_assoc);
  };
}
