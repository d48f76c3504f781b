-- The first bracket that is too deep, found by counting brackets in consecutive tokens. A closing bracket changes nothing
-- if none is open. So what is open at a position is the most by which opening brackets outnumber closing ones in
-- consecutive tokens that end there.
use Rattle.std.specs.Prelude.{◌≡◌, ℕ, ◌+◌, ◌≤◌, List, ◌∷◌, ◌++◌, length, count_by, IsTrue}
use Rattle.sql_token.specs.declared.limits.TheConstants.{BRACKETS_MOST, TOKENS_MOST}
use Rattle.sql_token.specs.declared.token.Token.{Token}
use Rattle.sql_token.specs.Laws.{StandFrom}
use Rattle.sql_token.specs.Tokens.{closes, opens}

-- the number of opening brackets among the tokens
abbrev pub openings : List Token → ℕ
openings = count_by (λ t. opens t.kind)

-- the number of closing brackets among the tokens
abbrev pub closings : List Token → ℕ
closings = count_by (λ t. closes t.kind)

-- in no consecutive tokens of the list are there over 32 more opening brackets than closing ones
abbrev pub IsShallow : List Token → Type 0
IsShallow ts =
    (skipped run rest : List Token) → ts ≡ skipped ++ (run ++ rest)
    → openings run ≤ closings run + BRACKETS_MOST

-- An opening bracket is at the position. Consecutive tokens that end before it have 32 more opening brackets than closing
-- ones, so that with it 33 are open. No consecutive tokens before it have over 32 more.
pub record IsDeepBracket (ts : List Token) (place : ℕ) : Type 0 where
  pub before : List Token
  pub bracket : Token
  pub after : List Token
  pub tokens : ts ≡ before ++ bracket ∷ after
  pub here : bracket.span.from ≡ place
  pub opening : IsTrue (opens bracket.kind)
  pub skipped : List Token
  pub run : List Token
  pub parts : before ≡ skipped ++ run
  pub deep : closings run + BRACKETS_MOST ≤ openings run
  pub first : IsShallow before

-- The text is at most 2,048 tokens, and the bracket at the position is the first that is too deep.
pub record IsTooDeep (text : List ℕ) (place : ℕ) : Type 0 where
  pub tokens : List Token
  pub stand : StandFrom text 0 tokens
  pub few : length tokens ≤ TOKENS_MOST
  pub bracket : IsDeepBracket tokens place

-- The text is these tokens, at most 2,048, and no bracket among them is too deep.
pub record AreWithin (text : List ℕ) (ts : List Token) : Type 0 where
  pub stand : StandFrom text 0 ts
  pub few : length ts ≤ TOKENS_MOST
  pub shallow : IsShallow ts
