-- What stands at the front of a text where no token is read: a byte that begins none, or digits of a number that is too large.
use Rattle.std.specs.Bool.{⊤}
use Rattle.std.proofs.Common.{◌≡◌, refl, ap, ◌∙◌, ℕ, zero, suc, ◌-◌, ◌<◌, ◌≤◌, arith, Bool, true, false, cond, List, [], ◌∷◌, length, take, Option, None, Some, Result, Ok, Err, ℤ, pos, nat_le}
use Rattle.std.specs.List.{list_all, prefix_len}
use Rattle.std.proofs.lemmas.Bool.{lt-leb, leb-false}
use Rattle.std.proofs.lemmas.List.Sums.{prefix_len-le-length}
use Rattle.sql_token.specs.declared.limits.TheConstants.{INT_MOST}
use Rattle.text_rules.specs.Numbers.{is_digit, value_after}
use Rattle.sql_token.specs.declared.sign.Sign.{Sign}
use Rattle.sql_token.specs.declared.token.Token.{Token}
use Rattle.sql_token.specs.declared.token.TokenKind.TheVariants as kind
use Rattle.text_rules.specs.Words.{begins_word}
use Rattle.sql_token.specs.Faults.{TokenFault, BadByte, Literal, TooMany, Depth}
use Rattle.sql_token.specs.Signs.{long_sign, short_sign}
use Rattle.sql_token.specs.Tokens.{word_at, int_at, int_token, small_int, short_at, long_at, sign_at, token_at}
use Rattle.sql_token.proofs.Fronts.{sign_shape}
use Rattle.sql_token.proofs.FrontTokens.{int_begins, shaped_of}
use Rattle.sql_token.proofs.Ints.{all_digits}
use Rattle.sql_token.proofs.Longest.{Longest, int_longest}
use Rattle.sql_token.proofs.Spans.{stands_in}
use Rattle.sql_token.proofs.Written.{written_in}

-- Digits stand at the front, and no more bytes have the shape of a token; their number is too large for an int.
pub record Large (bs : List ℕ) : Type 0 where
  pub bytes : ℕ
  pub some : 0 < bytes
  pub fits : bytes ≤ length bs
  pub digits : list_all is_digit (take bytes bs) ≡ true
  pub longest : Longest bs bytes
  pub large : INT_MOST < value_after 0 (take bytes bs)

-- what a fault tells of the bytes at the front
abbrev pub Told : ℕ → List ℕ → Result Token TokenFault → Type 0
Told place bs (Ok t) = ⊤
Told place bs (Err (BadByte p)) = (p ≡ place) × Longest bs 0
Told place bs (Err (Literal p)) = (p ≡ place) × Large bs
Told place bs (Err TooMany) = ⊥
Told place bs (Err (Depth p)) = ⊥

-- a number that is no int is above the largest
large_by : (n : ℕ) (b : Bool) → nat_le n INT_MOST ≡ b → ◌≡◌ {A = Option ℤ} (cond b (Some (pos n)) None) None → INT_MOST < n
large_by n true e none = absurd (cc none)
large_by n false e none = leb-false n INT_MOST e

int_told : (place b : ℕ) (bs : List ℕ) (z : Option ℤ) → is_digit b ≡ true → 0 < prefix_len is_digit (b ∷ bs)
    → small_int (value_after 0 (take (prefix_len is_digit (b ∷ bs)) (b ∷ bs))) ≡ z
    → Told place (b ∷ bs) (int_token place (prefix_len is_digit (b ∷ bs)) z)
int_told place b bs (Some z) digit some is = tt
int_told place b bs None digit some is = (
  refl,
  record {
    bytes = prefix_len is_digit (b ∷ bs);
    some = some;
    fits = prefix_len-le-length is_digit (b ∷ bs);
    digits = all_digits (b ∷ bs);
    longest = int_longest b bs digit;
    large = large_by (value_after 0 (take (prefix_len is_digit (b ∷ bs)) (b ∷ bs))) _ refl is;
  },
)

-- where neither two bytes nor one are a sign, nothing begins
alone_none : (a : ℕ) → begins_word a ≡ false → is_digit a ≡ false → short_sign a ≡ None → Longest (a ∷ []) 0
alone_none a word digit none zero more fits k shaped = omega arith
alone_none a word digit none (suc zero) more fits k shaped = sign_shape k a [] word digit none shaped
alone_none a word digit none (suc (suc n)) more fits k shaped = omega arith

two_none : (a b : ℕ) (bs : List ℕ) → begins_word a ≡ false → is_digit a ≡ false → short_sign a ≡ None → long_sign a b ≡ None → Longest (a ∷ b ∷ bs) 0
two_none a b bs word digit short long zero more fits k shaped = omega arith
two_none a b bs word digit short long (suc zero) more fits k shaped = sign_shape k a [] word digit short shaped
two_none a b bs word digit short long (suc (suc zero)) more fits k shaped = sign_shape k a (b ∷ []) word digit long shaped
two_none a b [] word digit short long (suc (suc (suc n))) more fits k shaped = omega arith
two_none a b (c ∷ bs) word digit short long (suc (suc (suc n))) more fits k shaped =
    sign_shape k a (b ∷ c ∷ take n bs) word digit refl shaped

short_told : (place : ℕ) (bs : List ℕ) (s : Option Sign) → (s ≡ None → Longest bs 0) → Told place bs (short_at place s)
short_told place bs (Some s) none = tt
short_told place bs None none = (refl, none refl)

long_told : (place a b : ℕ) (bs : List ℕ) (s : Option Sign) → begins_word a ≡ false → is_digit a ≡ false → long_sign a b ≡ s
    → Told place (a ∷ b ∷ bs) (long_at place s (short_sign a))
long_told place a b bs (Some s) word digit is = tt
long_told place a b bs None word digit is =
    short_told place (a ∷ b ∷ bs) (short_sign a) (λ short. two_none a b bs word digit short is)

sign_told : (place a : ℕ) (bs : List ℕ) → begins_word a ≡ false → is_digit a ≡ false → Told place (a ∷ bs) (sign_at place (a ∷ bs))
sign_told place a [] word digit = short_told place (a ∷ []) (short_sign a) (alone_none a word digit)
sign_told place a (b ∷ bs) word digit = long_told place a b bs (long_sign a b) word digit refl

some_digits : (b : ℕ) (bs : List ℕ) → is_digit b ≡ true → 0 < prefix_len is_digit (b ∷ bs)
some_digits b bs passes = rw passes (omega arith)

-- by what the first byte is
told_by : (place b : ℕ) (bs : List ℕ) (word digit : Bool) → begins_word b ≡ word → is_digit b ≡ digit
    → Told place (b ∷ bs) (cond word (Ok (word_at place (b ∷ bs))) (cond digit (int_at place (b ∷ bs)) (sign_at place (b ∷ bs))))
told_by place b bs true digit is_word other = tt
told_by place b bs false true not_word is_int = int_told place b bs _ is_int (some_digits b bs is_int) refl
told_by place b bs false false not_word not_int = sign_told place b bs not_word not_int

pub told : (place b : ℕ) (bs : List ℕ) → Told place (b ∷ bs) (token_at place (b ∷ bs))
told place b bs = told_by place b bs (begins_word b) (is_digit b) refl refl

-- where nothing begins, no token is read
bad_by : (place b : ℕ) (bs : List ℕ) (r : Result Token TokenFault) → token_at place (b ∷ bs) ≡ r → Told place (b ∷ bs) r → Longest (b ∷ bs) 0
    → r ≡ Err (BadByte place)
bad_by place b bs (Ok t) is why none =
    let stands = stands_in place (b ∷ bs) t is in
    let size = t.span.to - t.span.from in
    absurd (none size (omega (arith, stands.from, stands.some)) (omega (arith, stands.from, stands.ends)) t.kind
    (shaped_of t.kind (take size (b ∷ bs)) (written_in place (b ∷ bs) t is)))
bad_by place b bs (Err (BadByte p)) is why none = ap {B = Result Token TokenFault} (λ n. Err (BadByte n)) why.0
bad_by place b bs (Err (Literal p)) is why none =
    let l = why.1 in
    absurd (none l.bytes l.some l.fits (kind.Int (pos (value_after 0 (take l.bytes (b ∷ bs))))) (l.digits, refl))
bad_by place b bs (Err TooMany) is why none = absurd why
bad_by place b bs (Err (Depth p)) is why none = absurd why

pub bad_read : (place b : ℕ) (bs : List ℕ) → Longest (b ∷ bs) 0 → token_at place (b ∷ bs) ≡ Err (BadByte place)
bad_read place b bs none = bad_by place b bs (token_at place (b ∷ bs)) refl (told place b bs) none

-- where a number that is too large begins, it is no token
no_small : (n : ℕ) → INT_MOST < n → small_int n ≡ None
no_small n large = rw (lt-leb n INT_MOST large) refl

pub large_read : (place m b : ℕ) (bs : List ℕ) → suc m ≤ length (b ∷ bs) → list_all is_digit (b ∷ take m bs) ≡ true → Longest (b ∷ bs) (suc m)
    → INT_MOST < value_after 0 (b ∷ take m bs) → token_at place (b ∷ bs) ≡ Err (Literal place)
large_read place m b bs fits all longest large =
    int_begins place m b bs fits all longest ∙ ap (int_token place (suc m)) (no_small (value_after 0 (b ∷ take m bs)) large)
