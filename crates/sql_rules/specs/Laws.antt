-- Lemmas about reading.
use Rattle.std.specs.Prelude.{◌≡◌, ℕ, List, Ok, Err}
use Rattle.sql_token.specs.declared.token.Token.{Token}
use Rattle.sql_token.specs.Tokens.{tokens_of}
use Rattle.sql_tree.specs.declared.query.Query.{Query}
use Rattle.sql_rules.specs.Queries.{Spells}
use Rattle.sql_rules.specs.Trees.{tree_of}
use Rattle.sql_rules.specs.declared.fault.SqlFault.TheVariants as fault

-- A text writes a query: it has tokens within the limits, and they spell the query.
pub record Writes (text : List ℕ) (q : Query) : Type 0 where
  pub tokens : List Token
  pub are : tokens_of text ≡ Ok tokens
  pub spell : Spells text tokens q

-- the tree that is read from a text is one that the text writes
abbrev pub WhatIsReadIsWritten : Type 0
WhatIsReadIsWritten = (text : List ℕ) (q : Query) → tree_of text ≡ Ok q → Writes text q

-- the tree that a text writes is the one that is read, so that it writes no other
abbrev pub WhatIsWrittenIsRead : Type 0
WhatIsWrittenIsRead = (text : List ℕ) (q : Query) → Writes text q → tree_of text ≡ Ok q

-- a text writes at most one tree, spans included
abbrev pub OneTree : Type 0
OneTree = (text : List ℕ) (q r : Query) → Writes text q → Writes text r → q ≡ r

-- if the fault is `Syntax`, the text has tokens within the limits, and they spell nothing
abbrev pub SyntaxIsNothing : Type 0
SyntaxIsNothing = (text : List ℕ) → tree_of text ≡ Err fault.Syntax → (q : Query) → Writes text q → ⊥
