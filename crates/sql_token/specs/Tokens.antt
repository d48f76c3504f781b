-- The tokens of a text, with their positions, or the text's first fault.
use Rattle.std.specs.Prelude.{ℕ, zero, suc, ◌+◌, ◌-◌, Bool, true, false, ◌&&◌, nat_le, nat_lt, if◌then◌else◌}
use Rattle.std.specs.Prelude.{List, [], ◌∷◌, length, take_while, Option, None, Some, Result, Ok, Err, ℤ, pos}
use Rattle.std.specs.List.{prefix_len}
use Rattle.text_rules.specs.Numbers.{is_digit, value_after}
use Rattle.sql_token.specs.declared.limits.TheConstants.{BRACKETS_MOST, INT_MOST, TOKENS_MOST}
use Rattle.sql_token.specs.declared.keyword.Keyword.{Keyword}
use Rattle.sql_token.specs.declared.sign.Sign.{Sign}
use Rattle.sql_token.specs.declared.sign.Sign.TheVariants as sign
use Rattle.sql_token.specs.declared.token.Token.{Token}
use Rattle.sql_token.specs.declared.token.TokenKind.{TokenKind}
use Rattle.sql_token.specs.declared.token.TokenKind.TheVariants as kind
use Rattle.text_rules.specs.Words.{begins_word, continues_word}
use Rattle.text_rules.specs.Readings.{put_before}
use Rattle.sql_token.specs.Bytes.{is_blank}
use Rattle.sql_token.specs.Keywords.{keyword_of}
use Rattle.sql_token.specs.Signs.{long_sign, short_sign}
use Rattle.sql_token.specs.Faults.{TokenFault, BadByte, Literal, TooMany, Depth}

-- the token of a kind that begins at a position and has the given number of bytes
abbrev pub token : TokenKind → (place bytes : ℕ) → Token
token kind place bytes = record { kind = kind; span = record { from = place; to = place + bytes } }

-- the kind of a word: the keyword if it is one, and else a name
abbrev pub word_kind : Option Keyword → TokenKind
word_kind (Some k) = kind.Keyword k
word_kind None = kind.Name

-- the word at the start of a text: its longest prefix of letters, underscores and digits
abbrev pub word_at : ℕ → List ℕ → Token
word_at place text =
    token (word_kind (keyword_of (take_while continues_word text))) place
    (prefix_len continues_word text)

-- a number as an integer, if it is at most 2^63 - 1
abbrev pub small_int : ℕ → Option ℤ
small_int n = if nat_le n INT_MOST then Some (pos n) else None

-- the token of an integer with the given number of bytes, or a fault if its number is too large
abbrev pub int_token : (place bytes : ℕ) → Option ℤ → Result Token TokenFault
int_token place bytes (Some z) = Ok (token (kind.Int z) place bytes)
int_token place bytes None = Err (Literal place)

-- the integer at the start of a text: its longest prefix of digits
abbrev pub int_at : ℕ → List ℕ → Result Token TokenFault
int_at place text =
    int_token place (prefix_len is_digit text) (small_int (value_after 0 (take_while is_digit text)))

-- the token of a sign of one byte, or a fault if there is none
abbrev pub short_at : ℕ → Option Sign → Result Token TokenFault
short_at place (Some s) = Ok (token (kind.Sign s) place 1)
short_at place None = Err (BadByte place)

-- the token of a sign of two bytes if there is one, and else of one byte
abbrev pub long_at : ℕ → Option Sign → Option Sign → Result Token TokenFault
long_at place (Some s) short = Ok (token (kind.Sign s) place 2)
long_at place None short = short_at place short

-- the sign at the start of a text: the longer one if two begin there
abbrev pub sign_at : ℕ → List ℕ → Result Token TokenFault
sign_at place [] = Err (BadByte place)
sign_at place (a ∷ []) = short_at place (short_sign a)
sign_at place (a ∷ b ∷ bs) = long_at place (long_sign a b) (short_sign a)

-- the token at the start of a text that begins at a position, or its fault
abbrev pub token_at : ℕ → List ℕ → Result Token TokenFault
token_at place [] = Err (BadByte place)
token_at place (b ∷ bs) =
    if begins_word b then Ok (word_at place (b ∷ bs))
    else if is_digit b then int_at place (b ∷ bs)
    else sign_at place (b ∷ bs)

-- What begins at a position: a blank, a token or a fault.
pub data Standing : Type 0 where
  Blank : Standing
  Begins : Token → Standing
  Faulty : TokenFault → Standing

-- a token begins there, or there is a fault
abbrev pub begins : Result Token TokenFault → Standing
begins (Ok t) = Begins t
begins (Err fault) = Faulty fault

-- what begins at the start of a text
abbrev pub standing_at : ℕ → List ℕ → Standing
standing_at place [] = Blank
standing_at place (b ∷ bs) = if is_blank b then Blank else begins (token_at place (b ∷ bs))

-- the tokens from a position on, given what begins there and a function for the rest; its argument is how many first
-- bytes of the rest belong to the token
abbrev pub and_behind : Standing → (ℕ → Result (List Token) TokenFault) → Result (List Token) TokenFault
and_behind Blank behind = behind 0
and_behind (Begins t) behind = put_before t (behind (t.span.to - t.span.from - 1))
and_behind (Faulty fault) behind = Err fault

-- the tokens of a text that begins at a position, and whose first `inside` bytes belong to the token before it; or the
-- fault of the first position at which no token can be read
unfoldable pub tokens_from : (place inside : ℕ) → List ℕ → Result (List Token) TokenFault
tokens_from place inside [] = Ok []
tokens_from place (suc inside) (b ∷ bs) = tokens_from (place + 1) inside bs
tokens_from place zero (b ∷ bs) =
    and_behind (standing_at place (b ∷ bs)) (λ inside. tokens_from (place + 1) inside bs)

-- the token is an opening bracket
abbrev pub opens : TokenKind → Bool
opens (kind.Sign sign.Open) = true
opens _ = false

-- the token is a closing bracket
abbrev pub closes : TokenKind → Bool
closes (kind.Sign sign.Close) = true
closes _ = false

-- the number of open brackets after a token; a closing bracket changes nothing if none is open
abbrev pub open_behind : ℕ → Token → ℕ
open_behind depth t =
    if opens t.kind then depth + 1
    else if closes t.kind then depth - 1
    else depth

-- the position of the first bracket with which 33 are open, if the given number are open before these tokens
unfoldable pub too_deep : ℕ → List Token → Option ℕ
too_deep depth [] = None
too_deep depth (t ∷ ts) =
    if opens t.kind && nat_le BRACKETS_MOST depth then Some t.span.from else too_deep (open_behind depth t) ts

-- the tokens, if no bracket is too deep
abbrev pub if_flat : List Token → Option ℕ → Result (List Token) TokenFault
if_flat ts (Some place) = Err (Depth place)
if_flat ts None = Ok ts

-- the tokens, if they are at most 2,048 and at most 32 brackets are open at a time
abbrev pub within_limits : List Token → Result (List Token) TokenFault
within_limits ts = if nat_lt TOKENS_MOST (length ts) then Err TooMany else if_flat ts (too_deep 0 ts)

-- the continuation on the tokens, or the fault if there is one
abbrev pub and_then : Result (List Token) TokenFault
    → (List Token → Result (List Token) TokenFault) → Result (List Token) TokenFault
and_then (Ok ts) more = more ts
and_then (Err fault) more = Err fault

-- the tokens of a text in order, or its first fault: of bad bytes and large integers the first by its position; if
-- there is none, that the tokens are too many; then the first bracket that is too deep
abbrev pub tokens_of : List ℕ → Result (List Token) TokenFault
tokens_of text = and_then (tokens_from 0 0 text) within_limits
