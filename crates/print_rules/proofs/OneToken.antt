-- Which token is read where a word, digits or a sign stand at the front of a text.
use Rattle.std.proofs.Common.{◌≡◌, refl, ◌∙◌, ℕ, ◌-◌, ◌≤◌, arith, Bool, true, false, not, ◌||◌, ◌==◌, nat_le, List, [], ◌∷◌, ◌++◌, length, None, Some, Result, Ok, pos}
use Rattle.std.specs.List.{list_all}
use Rattle.std.specs.Str.{byte}
use Rattle.sql_token.specs.declared.limits.TheConstants.{INT_MOST}
use Rattle.text_rules.specs.Numbers.{is_digit, value_after}
use Rattle.sql_token.specs.declared.sign.Sign.{Sign}
use Rattle.sql_token.specs.declared.sign.Sign.TheVariants as sign
use Rattle.sql_token.specs.declared.token.Token.{Token}
use Rattle.sql_token.specs.declared.token.TokenKind.{TokenKind}
use Rattle.sql_token.specs.declared.token.TokenKind.TheVariants as kind
use Rattle.text_rules.specs.Words.{begins_word, continues_word}
use Rattle.sql_token.specs.Faults.{TokenFault}
use Rattle.sql_token.specs.Keywords.{keyword_of}
use Rattle.sql_token.specs.Laws.{is_word}
use Rattle.sql_token.specs.Signs.{long_sign}
use Rattle.sql_token.specs.Tokens.{int_at, small_int, token, token_at, word_at, word_kind}
use Rattle.print_rules.proofs.Fronts.{all_at_front, both, stops, while_at_front}

-- the token of the kind is read, with the bytes of the part
abbrev pub Reads : TokenKind → (w r : List ℕ) → ℕ → Type 0
Reads k w r place = ◌≡◌ {A = Result Token TokenFault} (token_at place (w ++ r)) (Ok (token k place (length w)))

-- where a word's first byte stands, a word is read
at_word : (place b : ℕ) (bs : List ℕ) → begins_word b ≡ true → token_at place (b ∷ bs) ≡ Ok (word_at place (b ∷ bs))
at_word place b bs begins = rw begins refl

-- where a digit stands, an int is read
at_digit : (place b : ℕ) (bs : List ℕ) → begins_word b ≡ false → is_digit b ≡ true → token_at place (b ∷ bs) ≡ int_at place (b ∷ bs)
at_digit place b bs word digit = rw (word, digit) refl

-- a digit begins no word
pub no_word : (b : ℕ) → is_digit b ≡ true → begins_word b ≡ false
no_word b digit = grind (arith, digit)

-- what ends a word ends a number
digit_stops : (r : List ℕ) → stops continues_word r ≡ true → stops is_digit r ≡ true
digit_stops [] stop = refl
digit_stops (b ∷ bs) stop = grind (arith, stop)

-- a word is read as its keyword or as a name
pub word_reads : (place : ℕ) (w r : List ℕ) → is_word w ≡ true → stops continues_word r ≡ true → Reads (word_kind (keyword_of w)) w r place
word_reads place [] r word stop = absurd cc
word_reads place (b ∷ bs) r word stop =
    let each = both (begins_word b) (list_all continues_word bs) word in
    let goes_on : continues_word b ≡ true = grind (arith, each.0) in
    let all : list_all continues_word (b ∷ bs) ≡ true = rw (goes_on, each.1) refl in
    at_word place b (bs ++ r) each.0
    ∙ rw (while_at_front continues_word (b ∷ bs) r all stop, all_at_front continues_word (b ∷ bs) r all stop) refl

-- a number that a token may have
small : (n : ℕ) → nat_le n INT_MOST ≡ true → small_int n ≡ Some (pos n)
small n le = rw le refl

-- digits are read as their number
pub int_reads : (place n : ℕ) (w r : List ℕ) → list_all is_digit w ≡ true → 1 ≤ length w → value_after 0 w ≡ n → nat_le n INT_MOST ≡ true
    → stops continues_word r ≡ true → Reads (kind.Int (pos n)) w r place
int_reads place n [] r all some value le stop = absurd (omega arith)
int_reads place n (b ∷ bs) r all some value le stop =
    let each = both (is_digit b) (list_all is_digit bs) all in
    let ends = digit_stops r stop in
    at_digit place b (bs ++ r) (no_word b each.0) each.0
    ∙ rw (while_at_front is_digit (b ∷ bs) r all ends, all_at_front is_digit (b ∷ bs) r all ends, value, small n le) refl

-- the byte goes on with a comparison
abbrev pub compares : ℕ → Bool
compares b = (b == byte "=") || (b == byte ">")

-- `<` or `>` with a byte that does not go on with it is no sign of two bytes
less_alone : (b : ℕ) → not (compares b) ≡ true → long_sign (byte "<") b ≡ None
less_alone b stop = grind (arith, stop)

more_alone : (b : ℕ) → not (compares b) ≡ true → long_sign (byte ">") b ≡ None
more_alone b stop = grind (arith, stop)

-- `<` alone
pub less_reads : (place : ℕ) (r : List ℕ) → stops compares r ≡ true → Reads (kind.Sign sign.Less) (byte "<" ∷ []) r place
less_reads place [] stop = refl
less_reads place (b ∷ bs) stop = rw (less_alone b stop) refl

-- `>` alone
pub more_reads : (place : ℕ) (r : List ℕ) → stops compares r ≡ true → Reads (kind.Sign sign.More) (byte ">" ∷ []) r place
more_reads place [] stop = refl
more_reads place (b ∷ bs) stop = rw (more_alone b stop) refl

-- the byte is read as the sign, whatever follows
abbrev pub is_alone : ℕ → Sign → Type 0
is_alone a s = (place : ℕ) (r : List ℕ) → Reads (kind.Sign s) (a ∷ []) r place

pub equal_reads : is_alone (byte "=") sign.Equal
equal_reads place [] = refl
equal_reads place (b ∷ bs) = refl

pub comma_reads : is_alone (byte ",") sign.Comma
comma_reads place [] = refl
comma_reads place (b ∷ bs) = refl

pub open_reads : is_alone (byte "(") sign.Open
open_reads place [] = refl
open_reads place (b ∷ bs) = refl

pub close_reads : is_alone (byte ")") sign.Close
close_reads place [] = refl
close_reads place (b ∷ bs) = refl

pub star_reads : is_alone (byte "*") sign.Star
star_reads place [] = refl
star_reads place (b ∷ bs) = refl

pub plus_reads : is_alone (byte "+") sign.Plus
plus_reads place [] = refl
plus_reads place (b ∷ bs) = refl

pub minus_reads : is_alone (byte "-") sign.Minus
minus_reads place [] = refl
minus_reads place (b ∷ bs) = refl

pub dot_reads : is_alone (byte ".") sign.Dot
dot_reads place [] = refl
dot_reads place (b ∷ bs) = refl

pub semicolon_reads : is_alone (byte ";") sign.Semicolon
semicolon_reads place [] = refl
semicolon_reads place (b ∷ bs) = refl
