-- The span of a column.
use Rattle.std.specs.Prelude.{ℕ, Option, None, Some}
use Rattle.sql_token.specs.declared.token.Span.{Span}
use Rattle.sql_tree.specs.declared.name.Name.{Name}
use Rattle.sql_tree.specs.declared.name.Col.{Col}

-- the position at which the first of a column's names begins
abbrev pub col_from : Option Name → Name → ℕ
col_from (Some table) name = table.span.from
col_from None name = name.span.from

-- the span from the first name of a column to the end of its last
abbrev pub col_span : Col → Span
col_span c = record { from = col_from c.table c.name; to = c.name.span.to }
