-- The position of a fault in its text: tokens extend up to it, and there none begins, or an integer that is too large.
use Rattle.std.specs.Prelude.{◌≡◌, ℕ, ◌<◌, ◌≤◌, false, List, [], ◌∷◌, length, slice_index, slice_range, IsTrue}
use Rattle.std.specs.List.{list_all}
use Rattle.text_rules.specs.Numbers.{is_digit, value_after}
use Rattle.sql_token.specs.declared.limits.TheConstants.{INT_MOST, TOKENS_MOST}
use Rattle.sql_token.specs.declared.token.Token.{Token}
use Rattle.sql_token.specs.declared.token.TokenKind.{TokenKind}
use Rattle.sql_token.specs.Bytes.{is_blank}
use Rattle.sql_token.specs.Laws.{IsFirst, IsShaped, StandFrom}

-- between two positions the text is these tokens one after another, with blanks alone before, between and after them
abbrev pub StandUpTo : List ℕ → ℕ → List Token → ℕ → Type 0
StandUpTo text place [] to = (place ≤ to) × IsTrue (list_all is_blank (slice_range text place to))
StandUpTo text place (t ∷ ts) to = IsFirst text place t × StandUpTo text t.span.to ts to

-- no range of bytes that begins at the first position and ends after the second has the shape of a token of any kind
abbrev pub NoneBehind : List ℕ → ℕ → ℕ → Type 0
NoneBehind text place to =
    (end : ℕ) → to < end → end ≤ length text → (k : TokenKind) → IsShaped k (slice_range text place end) → ⊥

-- The byte at the position is no blank and begins no token, and tokens extend up to it.
pub record IsBadByte (text : List ℕ) (place : ℕ) : Type 0 where
  pub tokens : List Token
  pub before : StandUpTo text 0 tokens place
  pub within : place < length text
  pub no_blank : is_blank (slice_index text place) ≡ false
  pub none : NoneBehind text place place

-- A maximal run of digits begins at the position; its number is above 2^63 - 1, and tokens extend up to it.
pub record IsLargeInt (text : List ℕ) (place : ℕ) : Type 0 where
  pub tokens : List Token
  pub before : StandUpTo text 0 tokens place
  pub to : ℕ
  pub some : place < to
  pub within : to ≤ length text
  pub digits : IsTrue (list_all is_digit (slice_range text place to))
  pub longest : NoneBehind text place to
  pub large : INT_MOST < value_after 0 (slice_range text place to)

-- The text is tokens, and they are more than 2,048.
pub record IsTooMany (text : List ℕ) : Type 0 where
  pub tokens : List Token
  pub stand : StandFrom text 0 tokens
  pub many : TOKENS_MOST < length tokens
