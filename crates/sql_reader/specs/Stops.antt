-- The results of the reading of a whole text.
use Rattle.std.specs.Prelude.{◌≡◌, ⊤, ℕ, List, Option, None, Some, Result, Ok, Err}
use Rattle.sky_io.specs.declared.Stop.{Stop}
use Rattle.sky_io.specs.Stops.{IfBad}
use Rattle.sql_token.specs.declared.token.Token.{Token}
use Rattle.sql_token.specs.declared.token.TokenStop.{TokenStop}
use Rattle.sql_token.specs.Answers.{StopsBy}
use Rattle.sql_token.specs.Faults.{TokenFault}
use Rattle.sql_tree.specs.declared.cond.Cond.{Cond}
use Rattle.sql_tree.specs.declared.query.Query.{Query}
use Rattle.sql_rules.specs.Symbols.{Symbol}
use Rattle.sql_rules.specs.Readers.{Reader, Answer, Got, ◌>>=◌}
use Rattle.sql_rules.specs.ReadQueries.{group_at, where_at}
use Rattle.sql_rules.specs.Trees.{Front, query_with, tree_from}
use Rattle.sql_rules.specs.declared.fault.SqlFault.{SqlFault}
use Rattle.sql_reader.specs.Answers.{Fails}
use Rattle.sql_reader.specs.declared.query.Before.{Before}
use Rattle.sql_reader.specs.declared.ahead.ReadStop.{ReadStop}
use Rattle.sql_reader.specs.declared.ahead.ReadStop.TheVariants.{Memory, Syntax}

-- the part of a query before WHERE, as the definition has it
abbrev pub front_of : Before → Front
front_of b = record { items = b.items; first = b.first; second = b.second }

-- GROUP BY and what follows it, up to the semicolon
abbrev pub from_group_at : Front → Option Cond → Reader Query
from_group_at front cond ts = group_at ts >>= λ group us. query_with front cond group us

-- WHERE and what follows it, up to the semicolon
abbrev pub from_where_at : Front → Reader Query
from_where_at front ts = where_at ts >>= λ cond us. from_group_at front cond us

-- the reader returns a value whose view is what can be read, and the rest; or that nothing can be read; or is out of
-- memory
abbrev pub GivesBy : {X A : Type 0} → (X → A) → Answer A → Result (X × List Symbol) ReadStop → Type 0
GivesBy view answer (Ok x) = answer ≡ Got (view x.0) x.1
GivesBy view answer (Err why) = Fails answer why

-- the reader returns the query of the tokens, or that they are none, or is out of memory
abbrev pub GivesQuery : Option Query → Result Query ReadStop → Type 0
GivesQuery spec (Ok query) = spec ≡ Some query
GivesQuery spec (Err Memory) = ⊤
GivesQuery spec (Err Syntax) = spec ≡ None

-- if the tokens of a text stop for this reason, its tree stops with this fault
abbrev pub MeansStop : TokenStop → Stop SqlFault → Type 0
MeansStop why stop =
    (text : List ℕ) → (tokens : Result (List Token) TokenFault) → StopsBy tokens why
    → IfBad stop (λ fault. tree_from text tokens ≡ Err fault)
