-- The results of a reader of tokens, compared with the definition. An allocation failure can take the place of any
-- result.
use Rattle.std.specs.Prelude.{◌≡◌, ⊤, ℕ, ◌<◌, ◌≤◌, List, [], length, drop, Option, None, Some, Result, Ok, Err}
use Rattle.sql_token.specs.declared.token.Token.{Token}
use Rattle.sql_token.specs.declared.token.TokenStop.{TokenStop}
use Rattle.sql_token.specs.declared.token.TokenStop.TheVariants as stop
use Rattle.sql_token.specs.Faults.{TokenFault, BadByte, Literal, TooMany, Depth}
use Rattle.text_rules.specs.Readings.{put_before}
use Rattle.sql_token.specs.Tokens.{tokens_from}

-- the reader stops with the fault of the definition, or is out of memory
abbrev pub StopsBy : {A : Type 0} → Result A TokenFault → TokenStop → Type 0
StopsBy spec (stop.BadByte place) = spec ≡ Err (BadByte place)
StopsBy spec (stop.Literal place) = spec ≡ Err (Literal place)
StopsBy spec stop.TooMany = spec ≡ Err TooMany
StopsBy spec (stop.Depth place) = spec ≡ Err (Depth place)
StopsBy spec stop.Memory = ⊤

-- the reader returns the result of the definition, or is out of memory
abbrev pub Gives : {A : Type 0} → Result A TokenFault → Result A TokenStop → Type 0
Gives spec (Ok a) = spec ≡ Ok a
Gives spec (Err why) = StopsBy spec why

-- the tokens of a text from a position on
abbrev pub behind : List ℕ → ℕ → Result (List Token) TokenFault
behind text place = tokens_from place 0 (drop place text)

-- The token is the next one of a text from a position on.
pub record IsNext (text : List ℕ) (place : ℕ) (t : Token) : Type 0 where
  pub tokens : behind text place ≡ put_before t (behind text t.span.to)
  pub after : place < t.span.to
  pub within : t.span.to ≤ length text

-- the reader returns the next token of a text from a position on, or that no token is left, or a fault
abbrev pub GivesNext : List ℕ → ℕ → Result (Option Token) TokenStop → Type 0
GivesNext text place (Ok (Some t)) = IsNext text place t
GivesNext text place (Ok None) = behind text place ≡ Ok []
GivesNext text place (Err why) = StopsBy (behind text place) why
