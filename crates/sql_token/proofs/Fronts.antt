-- What the bytes of a shape have in common with their first byte, and how many of them stand at the front of a text.
use Rattle.std.proofs.Common.{◌≡◌, refl, ℕ, zero, suc, ◌≤◌, arith, Bool, true, false, ◌&&◌, List, [], ◌∷◌, length, take, None}
use Rattle.std.specs.List.{list_all, prefix_len}
use Rattle.text_rules.specs.Numbers.{is_digit}
use Rattle.sql_token.specs.declared.token.TokenKind.{TokenKind}
use Rattle.sql_token.specs.declared.token.TokenKind.TheVariants as kind
use Rattle.text_rules.specs.Words.{begins_word, continues_word}
use Rattle.sql_token.specs.Laws.{IsShaped, is_word, sign_of}
use Rattle.sql_token.specs.Signs.{long_sign, short_sign}
use Rattle.sql_token.proofs.Spelled.{spelled_is}

-- the two halves of a joint test
pub both : (a b : Bool) → (a && b) ≡ true → (a ≡ true) × (b ≡ true)
both true b e = (refl, e)
both false b e = absurd cc

-- bytes that all pass are no more than those that pass at the front
pub at_most_front : (p : ℕ → Bool) (n : ℕ) (bs : List ℕ) → n ≤ length bs → list_all p (take n bs) ≡ true → n ≤ prefix_len p bs
at_most_front p zero bs fits all = omega arith
at_most_front p (suc n) [] fits all = absurd (omega arith)
at_most_front p (suc n) (b ∷ bs) fits all =
    let each = both (p b) (list_all p (take n bs)) all in
    let more = at_most_front p n bs (omega arith) each.1 in
    rw each.0 (omega (arith, more))

-- a word goes on with the byte that begins it
pub goes_on : (b : ℕ) → begins_word b ≡ true → continues_word b ≡ true
goes_on b begins = grind (arith, begins)

-- a digit begins no word
pub no_word : (b : ℕ) → is_digit b ≡ true → begins_word b ≡ false
no_word b digit = grind (arith, digit)

pub word_all : (b : ℕ) (bs : List ℕ) → is_word (b ∷ bs) ≡ true → (begins_word b ≡ true) × (list_all continues_word (b ∷ bs) ≡ true)
word_all b bs word =
    let each = both (begins_word b) (list_all continues_word bs) word in
    (each.0, rw (goes_on b each.0, each.1) refl)

-- letters and the underscore stand behind all bytes that are signs alone
letter_high : (b : ℕ) → begins_word b ≡ true → 65 ≤ b
letter_high b begins = grind (arith, begins)

high_alone : (b : ℕ) → 65 ≤ b → short_sign b ≡ None
high_alone b high = grind (arith, high)

-- no sign begins with a letter or a digit
letter_alone : (b : ℕ) → begins_word b ≡ true → short_sign b ≡ None
letter_alone b begins = high_alone b (letter_high b begins)

letter_first : (b c : ℕ) → begins_word b ≡ true → long_sign b c ≡ None
letter_first b c begins = grind (arith, begins)

digit_alone : (b : ℕ) → is_digit b ≡ true → short_sign b ≡ None
digit_alone b digit = grind (arith, digit)

digit_first : (b c : ℕ) → is_digit b ≡ true → long_sign b c ≡ None
digit_first b c digit = grind (arith, digit)

pub letter_no_sign : (b : ℕ) (bs : List ℕ) → begins_word b ≡ true → sign_of (b ∷ bs) ≡ None
letter_no_sign b [] begins = letter_alone b begins
letter_no_sign b (c ∷ []) begins = letter_first b c begins
letter_no_sign b (c ∷ d ∷ bs) begins = refl

pub digit_no_sign : (b : ℕ) (bs : List ℕ) → is_digit b ≡ true → sign_of (b ∷ bs) ≡ None
digit_no_sign b [] digit = digit_alone b digit
digit_no_sign b (c ∷ []) digit = digit_first b c digit
digit_no_sign b (c ∷ d ∷ bs) digit = refl

-- what begins as a word is one
pub word_shape : (k : TokenKind) (b : ℕ) (bs : List ℕ) → begins_word b ≡ true → IsShaped k (b ∷ bs) → list_all continues_word (b ∷ bs) ≡ true
word_shape (kind.Keyword k) b bs begins shaped = (word_all b bs (spelled_is (b ∷ bs) k shaped).word).1
word_shape kind.Name b bs begins shaped = (word_all b bs shaped.0).1
word_shape (kind.Int z) b bs begins shaped =
    let digit = (both (is_digit b) (list_all is_digit bs) shaped.0).0 in
    absurd (cc (begins, no_word b digit))
word_shape (kind.Sign s) b bs begins shaped = absurd (cc (shaped, letter_no_sign b bs begins))

-- what begins with a digit is an int
pub digit_shape : (k : TokenKind) (b : ℕ) (bs : List ℕ) → is_digit b ≡ true → IsShaped k (b ∷ bs) → list_all is_digit (b ∷ bs) ≡ true
digit_shape (kind.Keyword k) b bs digit shaped =
    absurd (cc ((word_all b bs (spelled_is (b ∷ bs) k shaped).word).0, no_word b digit))
digit_shape kind.Name b bs digit shaped = absurd (cc ((word_all b bs shaped.0).0, no_word b digit))
digit_shape (kind.Int z) b bs digit shaped = shaped.0
digit_shape (kind.Sign s) b bs digit shaped = absurd (cc (shaped, digit_no_sign b bs digit))

-- what begins with another byte is a sign
pub sign_shape : (k : TokenKind) (b : ℕ) (bs : List ℕ) → begins_word b ≡ false → is_digit b ≡ false → sign_of (b ∷ bs) ≡ None → IsShaped k (b ∷ bs) → ⊥
sign_shape (kind.Keyword k) b bs word digit none shaped = absurd (cc ((word_all b bs (spelled_is (b ∷ bs) k shaped).word).0, word))
sign_shape kind.Name b bs word digit none shaped = absurd (cc ((word_all b bs shaped.0).0, word))
sign_shape (kind.Int z) b bs word digit none shaped =
    absurd (cc ((both (is_digit b) (list_all is_digit bs) shaped.0).0, digit))
sign_shape (kind.Sign s) b bs word digit none shaped = absurd (cc (shaped, none))
