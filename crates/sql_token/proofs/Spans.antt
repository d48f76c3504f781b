-- Where a token stands that is read at a place: it begins there, has a byte or more, and ends within the text.
use Rattle.std.proofs.Common.{◌≡◌, refl, ℕ, ◌+◌, ◌<◌, ◌≤◌, arith, Bool, true, false, cond, List, [], ◌∷◌, length, Option, None, Some, Result, Ok, ℤ, subst}
use Rattle.std.specs.List.{prefix_len}
use Rattle.std.proofs.lemmas.List.Sums.{prefix_len-le-length}
use Rattle.text_rules.specs.Numbers.{is_digit}
use Rattle.sql_token.specs.declared.sign.Sign.{Sign}
use Rattle.sql_token.specs.declared.token.Token.{Token}
use Rattle.sql_token.specs.declared.token.TokenKind.{TokenKind}
use Rattle.text_rules.specs.Words.{begins_word, continues_word}
use Rattle.sql_token.specs.Faults.{TokenFault}
use Rattle.sql_token.specs.Signs.{long_sign, short_sign}
use Rattle.sql_token.specs.Tokens.{token, word_at, int_at, int_token, short_at, long_at, sign_at, token_at}

-- the token begins at the place and ends within the text that stands there
pub record StandsIn (place : ℕ) (bs : List ℕ) (t : Token) : Type 0 where
  pub from : t.span.from ≡ place
  pub some : place < t.span.to
  pub ends : t.span.to ≤ place + length bs

-- a token of so many bytes
sized : (place bytes : ℕ) (bs : List ℕ) (kind : TokenKind) → 0 < bytes → bytes ≤ length bs → StandsIn place bs (token kind place bytes)
sized place bytes bs kind some fits = record { from = refl; some = omega arith; ends = omega arith }

-- at least the first byte passes
some_pass : (p : ℕ → Bool) (b : ℕ) (bs : List ℕ) → p b ≡ true → 0 < prefix_len p (b ∷ bs)
some_pass p b bs passes = rw passes (omega arith)

same_token : (t u : Token) → ◌≡◌ {A = Result Token TokenFault} (Ok t) (Ok u) → t ≡ u
same_token t u e = cc e

from_same : (place : ℕ) (bs : List ℕ) (t u : Token) → StandsIn place bs t → ◌≡◌ {A = Result Token TokenFault} (Ok t) (Ok u) → StandsIn place bs u
from_same place bs t u stands e = subst (StandsIn place bs) (same_token t u e) stands

int_stands : (place bytes : ℕ) (bs : List ℕ) (z : Option ℤ) (t : Token) → 0 < bytes → bytes ≤ length bs → int_token place bytes z ≡ Ok t → StandsIn place bs t
int_stands place bytes bs None t some fits e = absurd (cc e)
int_stands place bytes bs (Some z) t some fits e = from_same place bs _ t (sized place bytes bs _ some fits) e

short_stands : (place : ℕ) (bs : List ℕ) (s : Option Sign) (t : Token) → 1 ≤ length bs → short_at place s ≡ Ok t → StandsIn place bs t
short_stands place bs None t fits e = absurd (cc e)
short_stands place bs (Some s) t fits e = from_same place bs _ t (sized place 1 bs _ (omega arith) fits) e

long_stands : (place : ℕ) (bs : List ℕ) (long short : Option Sign) (t : Token) → 2 ≤ length bs → long_at place long short ≡ Ok t → StandsIn place bs t
long_stands place bs None short t fits e = short_stands place bs short t (omega arith) e
long_stands place bs (Some s) short t fits e = from_same place bs _ t (sized place 2 bs _ (omega arith) fits) e

sign_stands : (place : ℕ) (bs : List ℕ) (t : Token) → sign_at place bs ≡ Ok t → StandsIn place bs t
sign_stands place [] t e = absurd (cc e)
sign_stands place (a ∷ []) t e = short_stands place (a ∷ []) (short_sign a) t (omega arith) e
sign_stands place (a ∷ b ∷ bs) t e = long_stands place (a ∷ b ∷ bs) (long_sign a b) (short_sign a) t (omega arith) e

word_stands : (place b : ℕ) (bs : List ℕ) → begins_word b ≡ true → StandsIn place (b ∷ bs) (word_at place (b ∷ bs))
word_stands place b bs begins =
    let goes_on : continues_word b ≡ true = grind (arith, begins) in
    sized place (prefix_len continues_word (b ∷ bs)) (b ∷ bs) _ (some_pass continues_word b bs goes_on) (prefix_len-le-length continues_word (b ∷ bs))

-- by what the first byte is
stands_by : (place b : ℕ) (bs : List ℕ) (t : Token) (word digit : Bool) → begins_word b ≡ word → is_digit b ≡ digit
    → (cond word (Ok (word_at place (b ∷ bs))) (cond digit (int_at place (b ∷ bs)) (sign_at place (b ∷ bs)))) ≡ Ok t → StandsIn place (b ∷ bs) t
stands_by place b bs t true digit is_word other e = from_same place (b ∷ bs) _ t (word_stands place b bs is_word) e
stands_by place b bs t false true not_word is_int e =
    int_stands place (prefix_len is_digit (b ∷ bs)) (b ∷ bs) _ t (some_pass is_digit b bs is_int) (prefix_len-le-length is_digit (b ∷ bs)) e
stands_by place b bs t false false not_word not_int e = sign_stands place (b ∷ bs) t e

pub stands_in : (place : ℕ) (bs : List ℕ) (t : Token) → token_at place bs ≡ Ok t → StandsIn place bs t
stands_in place [] t e = absurd (cc e)
stands_in place (b ∷ bs) t e = stands_by place b bs t (begins_word b) (is_digit b) refl refl e
