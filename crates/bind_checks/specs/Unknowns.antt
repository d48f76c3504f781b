-- The first unknown name.
use Rattle.std.specs.Prelude.{Option}
use Rattle.sql_token.specs.declared.token.Span.{Span}
use Rattle.bind_rules.specs.Mentions.{Mentions}
use Rattle.bind_rules.specs.Names.{Known, is_unknown, span_of}
use Rattle.query_walks.specs.Firsts.{first_place}

-- the span of the first of these mentions that refers to nothing
abbrev pub unknown_at : Known → Mentions → Option Span
unknown_at known ms = first_place span_of (is_unknown known) ms
