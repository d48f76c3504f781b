-- Which bytes write the token that is read at a place.
use Rattle.std.proofs.Common.{◌≡◌, refl, sym, ap, ◌∙◌, subst, ℕ, ◌+◌, ◌-◌, ◌≤◌, arith, Bool, true, false, cond, List, [], ◌∷◌, take, Option, None, Some, Result, Ok, ℤ, pos, find, nat_le}
use Rattle.std.specs.List.{list_all, prefix_len, take_while}
use Rattle.std.proofs.lemmas.Bool.{leb-true}
use Rattle.std.proofs.lemmas.List.Sums.{take_while-cons}
use Rattle.sql_token.specs.declared.limits.TheConstants.{INT_MOST}
use Rattle.text_rules.specs.Numbers.{is_digit, value_after}
use Rattle.sql_token.specs.declared.keyword.Keyword.{Keyword}
use Rattle.sql_token.specs.declared.sign.Sign.{Sign}
use Rattle.sql_token.specs.declared.token.Token.{Token}
use Rattle.sql_token.specs.declared.token.TokenKind.{TokenKind}
use Rattle.sql_token.specs.declared.token.TokenKind.TheVariants as kind
use Rattle.text_rules.specs.Words.{begins_word, continues_word}
use Rattle.sql_token.specs.Faults.{TokenFault}
use Rattle.sql_token.specs.Keywords.{is_spelled, keyword_of, keywords}
use Rattle.sql_token.specs.Laws.{is_word, IsShaped, IsWritten}
use Rattle.sql_token.specs.Signs.{long_sign, short_sign}
use Rattle.sql_token.specs.Tokens.{token, word_kind, word_at, int_at, int_token, small_int, short_at, long_at, sign_at, token_at}
use Rattle.sql_token.proofs.Ints.{all_digits}

-- the first bytes of a text write the token
abbrev pub WrittenIn : List ℕ → Token → Type 0
WrittenIn bs t = IsWritten t.kind (take (t.span.to - t.span.from) bs)

-- a token of so many bytes
written : (place bytes : ℕ) (bs : List ℕ) (kind : TokenKind) → IsWritten kind (take bytes bs) → WrittenIn bs (token kind place bytes)
written place bytes bs kind h =
    let same : bytes ≡ place + bytes - place = omega arith in
    subst (λ n. IsWritten kind (take n bs)) same h

from_same : (bs : List ℕ) (t u : Token) → WrittenIn bs t → ◌≡◌ {A = Result Token TokenFault} (Ok t) (Ok u) → WrittenIn bs u
from_same bs t u h e = let same : t ≡ u = cc e in subst (WrittenIn bs) same h

-- what is found passes the test
found_by : (test : Keyword → Bool) (k : Keyword) (ks : List Keyword) (x : Keyword) (b : Bool) → test k ≡ b
    → (find test ks ≡ Some x → test x ≡ true) → cond b (Some k) (find test ks) ≡ Some x → test x ≡ true
found_by test k ks x true passes more e = let same : k ≡ x = cc e in ap test (sym same) ∙ passes
found_by test k ks x false passes more e = more e

found : (test : Keyword → Bool) (ks : List Keyword) (x : Keyword) → find test ks ≡ Some x → test x ≡ true
found test [] x e = absurd (cc e)
found test (k ∷ ks) x e = found_by test k ks x (test k) refl (found test ks x) e

spelled : (word : List ℕ) (k : Keyword) → keyword_of word ≡ Some k → is_spelled word k ≡ true
unfolding keyword_of
spelled word k e = found (is_spelled word) keywords k e

-- a word's bytes
pass_step : (p : ℕ → Bool) (b : ℕ) (bs : List ℕ) (test : Bool) → p b ≡ test → list_all p bs ≡ true → list_all p (cond test (b ∷ bs) []) ≡ true
pass_step p b bs true passes all = rw (passes, all) refl
pass_step p b bs false passes all = refl

all_pass : (p : ℕ → Bool) (bs : List ℕ) → list_all p (take_while p bs) ≡ true
all_pass p [] = refl
all_pass p (b ∷ bs) = rw (take_while-cons p b bs) (pass_step p b (take_while p bs) (p b) refl (all_pass p bs))

pub word_bytes : (b : ℕ) (bs : List ℕ) → begins_word b ≡ true → is_word (take_while continues_word (b ∷ bs)) ≡ true
word_bytes b bs begins =
    let goes_on : continues_word b ≡ true = grind (arith, begins) in
    rw (take_while-cons continues_word b bs, goes_on, begins) (all_pass continues_word bs)

pub word_shaped : (bytes : List ℕ) (k : Option Keyword) → keyword_of bytes ≡ k → is_word bytes ≡ true → IsShaped (word_kind k) bytes
word_shaped bytes (Some k) e word = spelled bytes k e
word_shaped bytes None e word = (word, e)

word_written : (bytes : List ℕ) (k : Option Keyword) → keyword_of bytes ≡ k → is_word bytes ≡ true → IsWritten (word_kind k) bytes
word_written bytes (Some k) e word = word_shaped bytes (Some k) e word
word_written bytes None e word = word_shaped bytes None e word

-- a number that is small enough
small_value : (n : ℕ) (b : Bool) (z : ℤ) → nat_le n INT_MOST ≡ b → cond b (Some (pos n)) None ≡ Some z → (z ≡ pos n) × (n ≤ INT_MOST)
small_value n true z small e = (cc e, leb-true n INT_MOST small)
small_value n false z small e = absurd (cc e)

int_value : (n : ℕ) (z : ℤ) → small_int n ≡ Some z → (z ≡ pos n) × (n ≤ INT_MOST)
int_value n z e = small_value n (nat_le n INT_MOST) z refl e

int_written : (place bytes : ℕ) (bs : List ℕ) (z : Option ℤ) (t : Token) → list_all is_digit (take bytes bs) ≡ true
    → small_int (value_after 0 (take bytes bs)) ≡ z → int_token place bytes z ≡ Ok t → WrittenIn bs t
int_written place bytes bs None t digits value e = absurd (cc e)
int_written place bytes bs (Some z) t digits value e =
    let is = int_value (value_after 0 (take bytes bs)) z value in
    from_same bs _ t (written place bytes bs (kind.Int z) ((digits, is.0), is.1)) e

short_written : (place a : ℕ) (bs : List ℕ) (s : Option Sign) (t : Token) → short_sign a ≡ s → short_at place s ≡ Ok t → WrittenIn (a ∷ bs) t
short_written place a bs None t is e = absurd (cc e)
short_written place a bs (Some s) t is e = from_same (a ∷ bs) _ t (written place 1 (a ∷ bs) (kind.Sign s) is) e

long_written : (place a b : ℕ) (bs : List ℕ) (s : Option Sign) (t : Token) → long_sign a b ≡ s → long_at place s (short_sign a) ≡ Ok t → WrittenIn (a ∷ b ∷ bs) t
long_written place a b bs None t is e = short_written place a (b ∷ bs) (short_sign a) t refl e
long_written place a b bs (Some s) t is e = from_same (a ∷ b ∷ bs) _ t (written place 2 (a ∷ b ∷ bs) (kind.Sign s) is) e

sign_written : (place : ℕ) (bs : List ℕ) (t : Token) → sign_at place bs ≡ Ok t → WrittenIn bs t
sign_written place [] t e = absurd (cc e)
sign_written place (a ∷ []) t e = short_written place a [] (short_sign a) t refl e
sign_written place (a ∷ b ∷ bs) t e = long_written place a b bs (long_sign a b) t refl e

-- by what the first byte is
written_by : (place b : ℕ) (bs : List ℕ) (t : Token) (word digit : Bool) → begins_word b ≡ word → is_digit b ≡ digit
    → (cond word (Ok (word_at place (b ∷ bs))) (cond digit (int_at place (b ∷ bs)) (sign_at place (b ∷ bs)))) ≡ Ok t → WrittenIn (b ∷ bs) t
written_by place b bs t true digit is_word other e =
    let bytes = take_while continues_word (b ∷ bs) in
    from_same (b ∷ bs) _ t (written place (prefix_len continues_word (b ∷ bs)) (b ∷ bs) _ (word_written bytes (keyword_of bytes) refl (word_bytes b bs is_word))) e
written_by place b bs t false true not_word is_int e =
    int_written place (prefix_len is_digit (b ∷ bs)) (b ∷ bs) _ t (all_digits (b ∷ bs)) refl e
written_by place b bs t false false not_word not_int e = sign_written place (b ∷ bs) t e

pub written_in : (place : ℕ) (bs : List ℕ) (t : Token) → token_at place bs ≡ Ok t → WrittenIn bs t
written_in place [] t e = absurd (cc e)
written_in place (b ∷ bs) t e = written_by place b bs t (begins_word b) (is_digit b) refl refl e
