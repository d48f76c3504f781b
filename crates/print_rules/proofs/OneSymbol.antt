-- Which token is read where a symbol's text stands at the front of a text, and what may stand behind it.
use Rattle.std.proofs.Common.{◌≡◌, refl, subst, ℕ, ◌^◌, ◌<◌, ◌≤◌, arith, Bool, true, false, not, ◌&&◌, ◌||◌, if◌then◌else◌, [], ◌∷◌, ◌++◌, length, Option, None, Some, is_none, ℤ, pos, negsuc, codes, decimal}
use Rattle.std.specs.List.{list_all}
use Rattle.std.proofs.lemmas.Grind.{common_steps}
use Rattle.text_rules.specs.Numbers.{is_digit}
use Rattle.sql_token.specs.declared.keyword.Keyword.{Keyword}
use Rattle.sql_token.specs.declared.sign.Sign.{Sign}
use Rattle.sql_token.specs.declared.sign.Sign.TheVariants as sign
use Rattle.sql_token.specs.declared.token.TokenKind.{TokenKind}
use Rattle.sql_token.specs.declared.token.TokenKind.TheVariants as kind
use Rattle.text_rules.specs.Words.{begins_word, continues_word}
use Rattle.sql_token.specs.Bytes.{is_blank}
use Rattle.sql_token.specs.Keywords.{keyword_of}
use Rattle.sql_token.specs.Laws.{is_word}
use Rattle.sql_token.specs.Tokens.{word_kind}
use Rattle.sql_tree.specs.declared.cond.Cmp.{Cmp}
use Rattle.sql_tree.specs.declared.cond.Cmp.TheVariants as cmp
use Rattle.sql_rules.specs.Symbols.{Mark, OfKeyword, OfSign, Symbol, Named, Number, Adds, Compares, AreaName, Fixed}
use Rattle.sql_rules.specs.PrintedConds.{print_cmp, print_area}
use Rattle.sql_rules.specs.PrintedExprs.{Bytes}
use Rattle.print_rules.specs.Spaced.{is_comparison, is_plain, is_printable, is_wordlike, keyword_text, may_touch, symbol_text, sign_text}
use Rattle.print_rules.proofs.Decimals.{decimal_digits}
use Rattle.print_rules.proofs.Fronts.{both, stops, unmet}
use Rattle.print_rules.proofs.Keys.{area_is_keyword, area_keyword, is_keyword}
use Rattle.print_rules.proofs.OneToken.{Reads, compares, word_reads, int_reads, less_reads, more_reads, equal_reads, comma_reads, open_reads, close_reads, star_reads, plus_reads, minus_reads, dot_reads, semicolon_reads}

-- the sign of a comparison
abbrev pub cmp_sign : Cmp → Sign
cmp_sign cmp.Equal = sign.Equal
cmp_sign cmp.Differs = sign.Differs
cmp_sign cmp.Less = sign.Less
cmp_sign cmp.AtMost = sign.AtMost
cmp_sign cmp.More = sign.More
cmp_sign cmp.AtLeast = sign.AtLeast

-- what the token of a mark is
abbrev pub mark_kind : Mark → TokenKind
mark_kind (OfKeyword k) = kind.Keyword k
mark_kind (OfSign s) = kind.Sign s

-- what the token of a symbol is
abbrev pub kind_of : Symbol → TokenKind
kind_of (Named n) = kind.Name
kind_of (Number n) = kind.Int n
kind_of (Adds minus) = kind.Sign (if minus then sign.Minus else sign.Plus)
kind_of (Compares op) = kind.Sign (cmp_sign op)
kind_of (AreaName a span) = kind.Keyword (area_keyword a)
kind_of (Fixed m) = mark_kind m

-- The text does not go on with the symbol that it stands behind.
pub record Follows (p : Symbol) (r : Bytes) : Type 0 where
  pub word : is_wordlike p ≡ true → stops continues_word r ≡ true
  pub comparison : is_comparison p ≡ true → stops compares r ≡ true

-- a word that is no keyword
no_keyword : (k : Option Keyword) → is_none k ≡ true → k ≡ None
no_keyword None e = refl
no_keyword (Some k) e = absurd cc

-- ---- the token of a symbol

-- a word is read as what it is
word_of : (place : ℕ) (w r : Bytes) (k : Option Keyword) → is_word w ≡ true → keyword_of w ≡ k → stops continues_word r ≡ true → Reads (word_kind k) w r place
word_of place w r k word is stop = subst (λ o. Reads (word_kind o) w r place) is (word_reads place w r word stop)

-- a number is read as itself
number_reads : (place : ℕ) (n : ℤ) (r : Bytes) → is_printable (Number n) ≡ true → stops continues_word r ≡ true → Reads (kind.Int n) (symbol_text (Number n)) r place
number_reads place (negsuc n) r printable stop = absurd cc
number_reads place (pos n) r printable stop =
    let least : n < 2 ^ 64 = grind (arith, common_steps, printable) in
    let d = decimal_digits n least in
    int_reads place n (decimal n) r d.all (omega (arith, d.some)) d.value printable stop

-- a comparison is read as itself
cmp_reads : (place : ℕ) (op : Cmp) (r : Bytes) → stops compares r ≡ true → Reads (kind.Sign (cmp_sign op)) (print_cmp op) r place
cmp_reads place cmp.Equal r stop = equal_reads place r
cmp_reads place cmp.Differs r stop = refl
cmp_reads place cmp.Less r stop = less_reads place r stop
cmp_reads place cmp.AtMost r stop = refl
cmp_reads place cmp.More r stop = more_reads place r stop
cmp_reads place cmp.AtLeast r stop = refl

-- any other sign is read as itself
sign_reads : (place : ℕ) (s : Sign) (r : Bytes) → is_plain s ≡ true → Reads (kind.Sign s) (sign_text s) r place
sign_reads place sign.Comma r plain = comma_reads place r
sign_reads place sign.Open r plain = open_reads place r
sign_reads place sign.Close r plain = close_reads place r
sign_reads place sign.Star r plain = star_reads place r
sign_reads place sign.Dot r plain = dot_reads place r
sign_reads place sign.Semicolon r plain = semicolon_reads place r
sign_reads place _ r plain = absurd cc

-- a symbol is read as itself
pub symbol_reads : (place : ℕ) (p : Symbol) (r : Bytes) → is_printable p ≡ true → Follows p r → Reads (kind_of p) (symbol_text p) r place
symbol_reads place (Named n) r printable follows =
    let each = both (is_word n.text) (is_none (keyword_of n.text)) printable in
    word_of place n.text r None each.0 (no_keyword (keyword_of n.text) each.1) (follows.word refl)
symbol_reads place (Number n) r printable follows = number_reads place n r printable (follows.word refl)
symbol_reads place (Adds true) r printable follows = minus_reads place r
symbol_reads place (Adds false) r printable follows = plus_reads place r
symbol_reads place (Compares op) r printable follows = cmp_reads place op r (follows.comparison refl)
symbol_reads place (AreaName a span) r printable follows =
    let is = area_is_keyword a in
    word_of place (print_area a) r (Some (area_keyword a)) is.word is.is (follows.word refl)
symbol_reads place (Fixed (OfKeyword k)) r printable follows =
    let is = is_keyword k in
    word_of place (keyword_text k) r (Some k) is.word is.is (follows.word refl)
symbol_reads place (Fixed (OfSign s)) r printable follows = sign_reads place s r printable

-- ---- the first byte of a symbol

-- The text of a symbol has a first byte, which is no blank and does not go on with a symbol that the symbol may touch.
pub record Front (p : Symbol) : Type 0 where
  pub first : ℕ
  pub rest : Bytes
  pub is : symbol_text p ≡ first ∷ rest
  pub solid : is_blank first ≡ false
  pub word : is_wordlike p ≡ false → continues_word first ≡ false
  pub comparison : is_comparison p ≡ false → compares first ≡ false

-- a word's first byte
word_front : (p : Symbol) (w : Bytes) → symbol_text p ≡ w → is_wordlike p ≡ true → is_word w ≡ true → Front p
word_front p [] is wordlike word = absurd cc
word_front p (b ∷ bs) is wordlike word =
    let begins = (both (begins_word b) (list_all continues_word bs) word).0 in
    record {
      first = b;
      rest = bs;
      is = is;
      solid = grind (arith, begins);
      word = λ e. absurd (cc (e, wordlike));
      comparison = λ e. grind (arith, begins);
    }

-- a number's first byte
digits_front : (p : Symbol) (w : Bytes) → symbol_text p ≡ w → is_wordlike p ≡ true → list_all is_digit w ≡ true → 1 ≤ length w → Front p
digits_front p [] is wordlike all some = absurd (omega arith)
digits_front p (b ∷ bs) is wordlike all some =
    let digit = (both (is_digit b) (list_all is_digit bs) all).0 in
    record {
      first = b;
      rest = bs;
      is = is;
      solid = grind (arith, digit);
      word = λ e. absurd (cc (e, wordlike));
      comparison = λ e. grind (arith, digit);
    }

number_front : (n : ℤ) → is_printable (Number n) ≡ true → Front (Number n)
number_front (negsuc n) printable = absurd cc
number_front (pos n) printable =
    let least : n < 2 ^ 64 = grind (arith, common_steps, printable) in
    let d = decimal_digits n least in
    digits_front (Number (pos n)) (decimal n) refl refl d.all (omega (arith, d.some))

-- a comparison's first byte
cmp_by : (op : Cmp) (b : ℕ) (bs : Bytes) → print_cmp op ≡ b ∷ bs → is_blank b ≡ false → continues_word b ≡ false → Front (Compares op)
cmp_by op b bs is solid word = record { first = b; rest = bs; is = is; solid = solid; word = λ e. word; comparison = λ e. absurd cc }

cmp_front : (op : Cmp) → Front (Compares op)
cmp_front cmp.Equal = cmp_by cmp.Equal _ _ refl refl refl
cmp_front cmp.Differs = cmp_by cmp.Differs _ _ refl refl refl
cmp_front cmp.Less = cmp_by cmp.Less _ _ refl refl refl
cmp_front cmp.AtMost = cmp_by cmp.AtMost _ _ refl refl refl
cmp_front cmp.More = cmp_by cmp.More _ _ refl refl refl
cmp_front cmp.AtLeast = cmp_by cmp.AtLeast _ _ refl refl refl

-- the first byte of a sign that goes on with nothing
sign_by : (p : Symbol) (b : ℕ) (bs : Bytes) → symbol_text p ≡ b ∷ bs → is_blank b ≡ false → continues_word b ≡ false → compares b ≡ false → Front p
sign_by p b bs is solid word comparison = record { first = b; rest = bs; is = is; solid = solid; word = λ e. word; comparison = λ e. comparison }

sign_front : (s : Sign) → is_plain s ≡ true → Front (Fixed (OfSign s))
sign_front sign.Comma plain = sign_by _ _ _ refl refl refl refl
sign_front sign.Open plain = sign_by _ _ _ refl refl refl refl
sign_front sign.Close plain = sign_by _ _ _ refl refl refl refl
sign_front sign.Star plain = sign_by _ _ _ refl refl refl refl
sign_front sign.Dot plain = sign_by _ _ _ refl refl refl refl
sign_front sign.Semicolon plain = sign_by _ _ _ refl refl refl refl
sign_front _ plain = absurd cc

-- the first byte of any symbol
pub front : (p : Symbol) → is_printable p ≡ true → Front p
front (Named n) printable = word_front (Named n) n.text refl refl (both (is_word n.text) (is_none (keyword_of n.text)) printable).0
front (Number n) printable = number_front n printable
front (Adds true) printable = sign_by _ _ _ refl refl refl refl
front (Adds false) printable = sign_by _ _ _ refl refl refl refl
front (Compares op) printable = cmp_front op
front (AreaName a span) printable = word_front (AreaName a span) (print_area a) refl refl (area_is_keyword a).word
front (Fixed (OfKeyword k)) printable = word_front (Fixed (OfKeyword k)) (keyword_text k) refl refl (is_keyword k).word
front (Fixed (OfSign s)) printable = sign_front s printable

-- ---- what may stand behind a symbol

-- of two that are not both so, the other
other : (a b : Bool) → not (a && b) ≡ true → a ≡ true → b ≡ false
other true b e one = unmet b e
other false b e one = absurd cc

-- a space, or a symbol that may touch, does not go on with the symbol before
pub may_follow : (p : Symbol) (spaced : Bool) (q : Symbol) (r : Bytes) → is_printable q ≡ true → (spaced || may_touch p q) ≡ true
    → Follows p (((if spaced then codes " " else []) ++ symbol_text q) ++ r)
may_follow p true q r printable parted = record { word = λ e. refl; comparison = λ e. refl }
may_follow p false q r printable parted =
    let f = front q printable in
    let each = both (not (is_wordlike p && is_wordlike q)) (not (is_comparison p && is_comparison q)) parted in
    record {
      word = λ e. rw (f.is, f.word (other (is_wordlike p) (is_wordlike q) each.0 e)) refl;
      comparison = λ e. rw (f.is, f.comparison (other (is_comparison p) (is_comparison q) each.1 e)) refl;
    }
