-- The one tree of a text, or its first fault.
use Rattle.std.specs.Prelude.{ℕ, List, [], ◌∷◌, Option, None, Some, Result, Ok, Err}
use Rattle.sql_token.specs.declared.keyword.Keyword.TheVariants as keyword
use Rattle.sql_token.specs.declared.sign.Sign.TheVariants as sign
use Rattle.sql_token.specs.declared.token.Span.{Span}
use Rattle.sql_token.specs.declared.token.Token.{Token}
use Rattle.sql_token.specs.Faults.{TokenFault, BadByte, Literal, TooMany, Depth}
use Rattle.sql_token.specs.Tokens.{tokens_of}
use Rattle.sql_tree.specs.declared.cond.Cond.{Cond}
use Rattle.sql_tree.specs.declared.name.Col.{Col}
use Rattle.sql_tree.specs.declared.query.Query.{Query}
use Rattle.sql_tree.specs.declared.query.Selection.{Selection}
use Rattle.sql_tree.specs.declared.query.TableRef.{TableRef}
use Rattle.sql_rules.specs.Symbols.{Symbol, OfKeyword, OfSign, symbols}
use Rattle.sql_rules.specs.Queries.{second_span}
use Rattle.sql_rules.specs.Readers.{Reader, Answer, Got, Stuck, ◌>>=◌, mark_at, maybe_at}
use Rattle.sql_rules.specs.ReadQueries.{items_at, table_at, second_at, where_at, group_at, order_at, limit_at}
use Rattle.sql_rules.specs.declared.fault.SqlFault.{SqlFault}
use Rattle.sql_rules.specs.declared.fault.SqlFault.TheVariants as fault

-- the part of a query before WHERE
pub record Front : Type 0 where
  pub items : Selection
  pub first : TableRef
  pub second : Option TableRef

-- FROM table [, table]
unfoldable pub from_at : Selection → Reader Front
from_at items ts =
    mark_at (OfKeyword keyword.From) ts >>= λ _ us.
    table_at us >>= λ first vs.
    second_at vs >>= λ second rest.
    Got (record { items = items; first = first; second = second }) rest

-- SELECT items FROM table [, table]; a star has the span `star`
unfoldable pub front_at : Span → Reader Front
front_at star ts =
    mark_at (OfKeyword keyword.Select) ts >>= λ _ us. items_at star us >>= λ items vs. from_at items vs

-- the rest of a query from ORDER BY on, given its earlier parts
abbrev pub query_with : Front → Option Cond → List Col → Reader Query
query_with front cond group ts =
    order_at ts >>= λ order us.
    limit_at us >>= λ limit rest.
    Got (record {
      items = front.items;
      first = front.first;
      second = front.second;
      cond = cond;
      group = group;
      order = order;
      limit = limit;
    }) rest

-- a query, up to its semicolon; a star has the span `star`
unfoldable pub query_at : Span → Reader Query
query_at star ts =
    front_at star ts >>= λ front us.
    where_at us >>= λ cond vs.
    group_at vs >>= λ group ws.
    query_with front cond group ws

-- the query, if nothing is left
abbrev pub nothing_left : Query → List Symbol → Option Query
nothing_left q [] = Some q
nothing_left q (p ∷ ps) = None

-- the query that was read, if nothing but a semicolon follows it
abbrev pub whole : Answer Query → Option Query
whole (Got q rest) = nothing_left q (maybe_at (OfSign sign.Semicolon) rest).1
whole Stuck = None

-- the query that all the tokens spell
unfoldable pub query_of : List ℕ → List Token → Option Query
query_of text ts = whole (query_at (second_span ts) (symbols text ts))

-- the fault of a text that has no list of tokens
abbrev pub fault_of : TokenFault → SqlFault
fault_of (BadByte place) = fault.BadByte place
fault_of (Literal place) = fault.Literal place
fault_of TooMany = fault.TooMany
fault_of (Depth place) = fault.Depth place

-- the query, or the fault `Syntax` if there is none
abbrev pub or_syntax : Option Query → Result Query SqlFault
or_syntax (Some q) = Ok q
or_syntax None = Err fault.Syntax

-- the query that the tokens spell, or the fault
abbrev pub tree_from : List ℕ → Result (List Token) TokenFault → Result Query SqlFault
tree_from text (Ok ts) = or_syntax (query_of text ts)
tree_from text (Err why) = Err (fault_of why)

-- the tree of a text, or its first fault
unfoldable pub tree_of : List ℕ → Result Query SqlFault
tree_of text = tree_from text (tokens_of text)
