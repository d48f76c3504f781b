-- The positions of the tokens of a text, and the bytes that write them.
use Rattle.std.specs.Prelude.{◌≡◌, ℕ, ◌<◌, ◌≤◌, Bool, false, ◌&&◌, List, [], ◌∷◌, length, drop, slice_range, pos}
use Rattle.std.specs.Prelude.{Option, None, Some, IsTrue}
use Rattle.std.specs.List.{list_all}
use Rattle.sql_token.specs.declared.limits.TheConstants.{INT_MOST}
use Rattle.text_rules.specs.Numbers.{is_digit, value_after}
use Rattle.sql_token.specs.declared.sign.Sign.{Sign}
use Rattle.sql_token.specs.declared.token.Token.{Token}
use Rattle.sql_token.specs.declared.token.TokenKind.{TokenKind}
use Rattle.sql_token.specs.declared.token.TokenKind.TheVariants as kind
use Rattle.text_rules.specs.Words.{begins_word, continues_word}
use Rattle.sql_token.specs.Bytes.{is_blank}
use Rattle.sql_token.specs.Keywords.{is_spelled, keyword_of}
use Rattle.sql_token.specs.Signs.{long_sign, short_sign}

-- the bytes are a word
abbrev pub is_word : List ℕ → Bool
is_word [] = false
is_word (b ∷ bs) = begins_word b && list_all continues_word bs

-- the sign that exactly these bytes write
abbrev pub sign_of : List ℕ → Option Sign
sign_of (a ∷ []) = short_sign a
sign_of (a ∷ b ∷ []) = long_sign a b
sign_of _ = None

-- the bytes have the shape of a token of the kind: a word, digits of any value, or a sign
abbrev pub IsShaped : TokenKind → List ℕ → Type 0
IsShaped (kind.Keyword k) bytes = IsTrue (is_spelled bytes k)
IsShaped kind.Name bytes = IsTrue (is_word bytes) × (keyword_of bytes ≡ None)
IsShaped (kind.Int z) bytes = IsTrue (list_all is_digit bytes) × (z ≡ pos (value_after 0 bytes))
IsShaped (kind.Sign s) bytes = sign_of bytes ≡ Some s

-- the bytes write a token of the kind: they have its shape, and an integer is at most 2^63 - 1
abbrev pub IsWritten : TokenKind → List ℕ → Type 0
IsWritten (kind.Int z) bytes = IsShaped (kind.Int z) bytes × (value_after 0 bytes ≤ INT_MOST)
IsWritten k bytes = IsShaped k bytes

-- The token is the first one from a position on: only blanks are before it, its bytes write it, and no longer range of
-- bytes from its start has the shape of a token of any kind.
pub record IsFirst (text : List ℕ) (place : ℕ) (t : Token) : Type 0 where
  pub after : place ≤ t.span.from
  pub blanks : IsTrue (list_all is_blank (slice_range text place t.span.from))
  pub some : t.span.from < t.span.to
  pub within : t.span.to ≤ length text
  pub written : IsWritten t.kind (slice_range text t.span.from t.span.to)
  pub longest : (to : ℕ) → t.span.to < to → to ≤ length text
      → (k : TokenKind) → IsShaped k (slice_range text t.span.from to) → ⊥

-- from a position on the text is these tokens one after another, with blanks alone before, between and after them
abbrev pub StandFrom : List ℕ → ℕ → List Token → Type 0
StandFrom text place [] = IsTrue (list_all is_blank (drop place text))
StandFrom text place (t ∷ ts) = IsFirst text place t × StandFrom text t.span.to ts
