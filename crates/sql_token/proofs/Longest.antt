-- No more bytes than those of the token that is read have the shape of a token.
use Rattle.std.proofs.Common.{◌≡◌, refl, subst, ℕ, zero, suc, ◌+◌, ◌-◌, ◌<◌, ◌≤◌, arith, Bool, true, false, cond, List, [], ◌∷◌, length, take, Option, None, Some, Result, Ok, ℤ}
use Rattle.std.specs.List.{prefix_len, take_while}
use Rattle.text_rules.specs.Numbers.{is_digit}
use Rattle.sql_token.specs.declared.sign.Sign.{Sign}
use Rattle.sql_token.specs.declared.token.Token.{Token}
use Rattle.sql_token.specs.declared.token.TokenKind.{TokenKind}
use Rattle.sql_token.specs.declared.token.TokenKind.TheVariants as kind
use Rattle.text_rules.specs.Words.{begins_word, continues_word}
use Rattle.sql_token.specs.Faults.{TokenFault}
use Rattle.sql_token.specs.Keywords.{keyword_of}
use Rattle.sql_token.specs.Laws.{IsShaped}
use Rattle.sql_token.specs.Signs.{long_sign, short_sign}
use Rattle.sql_token.specs.Tokens.{token, word_kind, word_at, int_at, int_token, short_at, long_at, sign_at, token_at}
use Rattle.sql_token.proofs.Fronts.{at_most_front, digit_shape, sign_shape, word_shape}

-- no front of more than so many bytes has the shape of a token
abbrev pub Longest : List ℕ → ℕ → Type 0
Longest bs bytes = (n : ℕ) → bytes < n → n ≤ length bs → (k : TokenKind) → IsShaped k (take n bs) → ⊥

-- no front longer than the token has the shape of one
abbrev pub LongestIn : List ℕ → Token → Type 0
LongestIn bs t = Longest bs (t.span.to - t.span.from)

word_longest : (b : ℕ) (bs : List ℕ) → begins_word b ≡ true → Longest (b ∷ bs) (prefix_len continues_word (b ∷ bs))
word_longest b bs begins zero more fits k shaped = omega arith
word_longest b bs begins (suc n) more fits k shaped =
    let most = at_most_front continues_word (suc n) (b ∷ bs) fits (word_shape k b (take n bs) begins shaped) in
    omega (arith, more, most)

pub int_longest : (b : ℕ) (bs : List ℕ) → is_digit b ≡ true → Longest (b ∷ bs) (prefix_len is_digit (b ∷ bs))
int_longest b bs digit zero more fits k shaped = omega arith
int_longest b bs digit (suc n) more fits k shaped =
    let most = at_most_front is_digit (suc n) (b ∷ bs) fits (digit_shape k b (take n bs) digit shaped) in
    omega (arith, more, most)

-- three bytes or more are no sign
long_longest : (a b : ℕ) (bs : List ℕ) → begins_word a ≡ false → is_digit a ≡ false → Longest (a ∷ b ∷ bs) 2
long_longest a b bs word digit zero more fits k shaped = omega arith
long_longest a b bs word digit (suc zero) more fits k shaped = omega arith
long_longest a b bs word digit (suc (suc zero)) more fits k shaped = omega arith
long_longest a b [] word digit (suc (suc (suc n))) more fits k shaped = omega arith
long_longest a b (c ∷ bs) word digit (suc (suc (suc n))) more fits k shaped =
    sign_shape k a (b ∷ c ∷ take n bs) word digit refl shaped

-- nor are two, where they write none
short_longest : (a b : ℕ) (bs : List ℕ) → begins_word a ≡ false → is_digit a ≡ false → long_sign a b ≡ None → Longest (a ∷ b ∷ bs) 1
short_longest a b bs word digit none zero more fits k shaped = omega arith
short_longest a b bs word digit none (suc zero) more fits k shaped = omega arith
short_longest a b bs word digit none (suc (suc zero)) more fits k shaped = sign_shape k a (b ∷ []) word digit none shaped
short_longest a b bs word digit none (suc (suc (suc n))) more fits k shaped =
    long_longest a b bs word digit (suc (suc (suc n))) (omega arith) fits k shaped

lone_longest : (a : ℕ) → Longest (a ∷ []) 1
lone_longest a n more fits k shaped = omega (arith, more, fits)

-- a token of so many bytes
sized : (place bytes : ℕ) (bs : List ℕ) (kind : TokenKind) → Longest bs bytes → LongestIn bs (token kind place bytes)
sized place bytes bs kind h =
    let same : bytes ≡ place + bytes - place = omega arith in
    subst (Longest bs) same h

from_same : (bs : List ℕ) (t u : Token) → LongestIn bs t → ◌≡◌ {A = Result Token TokenFault} (Ok t) (Ok u) → LongestIn bs u
from_same bs t u h e = let same : t ≡ u = cc e in subst (LongestIn bs) same h

int_by : (place bytes : ℕ) (bs : List ℕ) (z : Option ℤ) (t : Token) → Longest bs bytes → int_token place bytes z ≡ Ok t → LongestIn bs t
int_by place bytes bs None t h e = absurd (cc e)
int_by place bytes bs (Some z) t h e = from_same bs _ t (sized place bytes bs (kind.Int z) h) e

short_by : (place : ℕ) (bs : List ℕ) (s : Option Sign) (t : Token) → Longest bs 1 → short_at place s ≡ Ok t → LongestIn bs t
short_by place bs None t h e = absurd (cc e)
short_by place bs (Some s) t h e = from_same bs _ t (sized place 1 bs (kind.Sign s) h) e

long_by : (place a b : ℕ) (bs : List ℕ) (s : Option Sign) (t : Token) → begins_word a ≡ false → is_digit a ≡ false → long_sign a b ≡ s
    → long_at place s (short_sign a) ≡ Ok t → LongestIn (a ∷ b ∷ bs) t
long_by place a b bs None t word digit is e =
    short_by place (a ∷ b ∷ bs) (short_sign a) t (short_longest a b bs word digit is) e
long_by place a b bs (Some s) t word digit is e =
    from_same (a ∷ b ∷ bs) _ t (sized place 2 (a ∷ b ∷ bs) (kind.Sign s) (long_longest a b bs word digit)) e

sign_by : (place a : ℕ) (bs : List ℕ) (t : Token) → begins_word a ≡ false → is_digit a ≡ false → sign_at place (a ∷ bs) ≡ Ok t → LongestIn (a ∷ bs) t
sign_by place a [] t word digit e = short_by place (a ∷ []) (short_sign a) t (lone_longest a) e
sign_by place a (b ∷ bs) t word digit e = long_by place a b bs (long_sign a b) t word digit refl e

-- by what the first byte is
longest_by : (place b : ℕ) (bs : List ℕ) (t : Token) (word digit : Bool) → begins_word b ≡ word → is_digit b ≡ digit
    → (cond word (Ok (word_at place (b ∷ bs))) (cond digit (int_at place (b ∷ bs)) (sign_at place (b ∷ bs)))) ≡ Ok t → LongestIn (b ∷ bs) t
longest_by place b bs t true digit is_word other e =
    let kind = word_kind (keyword_of (take_while continues_word (b ∷ bs))) in
    from_same (b ∷ bs) _ t (sized place (prefix_len continues_word (b ∷ bs)) (b ∷ bs) kind (word_longest b bs is_word)) e
longest_by place b bs t false true not_word is_int e =
    int_by place (prefix_len is_digit (b ∷ bs)) (b ∷ bs) _ t (int_longest b bs is_int) e
longest_by place b bs t false false not_word not_int e = sign_by place b bs t not_word not_int e

pub longest_in : (place : ℕ) (bs : List ℕ) (t : Token) → token_at place bs ≡ Ok t → LongestIn bs t
longest_in place [] t e = absurd (cc e)
longest_in place (b ∷ bs) t e = longest_by place b bs t (begins_word b) (is_digit b) refl refl e
