-- The line that reports why a query is refused.
use Rattle.std.specs.Prelude.{◌++◌, codes, slice_range}
use Rattle.std.specs.Fmt.{decimal, signed_decimal}
use Rattle.sql_token.specs.declared.token.Span.{Span}
use Rattle.sql_rules.specs.PrintedExprs.{Bytes}
use Rattle.sql_rules.specs.declared.fault.SqlFault.{SqlFault}
use Rattle.sql_rules.specs.declared.fault.SqlFault.TheVariants as sql
use Rattle.bind_rules.specs.declared.fault.BindFault.{BindFault}
use Rattle.bind_rules.specs.declared.fault.BindFault.TheVariants as bind
use Rattle.answer_rules.specs.declared.refusal.Radius.{Radius}
use Rattle.answer_rules.specs.declared.refusal.TotalOut.{TotalOut}
use Rattle.transcript_rules.specs.declared.refusal.Refusal.{Refusal}
use Rattle.transcript_rules.specs.declared.refusal.Refusal.TheVariants as refusal

-- a text followed by a line feed
abbrev pub line : Bytes → Bytes
line text = text ++ codes "\n"

-- the part of a query's line in a span, as it is written there
abbrev pub quoted : Bytes → Span → Bytes
quoted text span = slice_range text span.from span.to

-- the fault of a text that is no query; positions are offsets in bytes from 0
abbrev pub sql_words : SqlFault → Bytes
sql_words (sql.BadByte place) = codes "bad byte at " ++ decimal place
sql_words (sql.Literal place) = codes "number too large at " ++ decimal place
sql_words sql.TooMany = codes "more than 2048 tokens"
sql_words (sql.Depth place) = codes "brackets too deep at " ++ decimal place
sql_words sql.Syntax = codes "not a query"

-- the fault of a query over the schema
abbrev pub bind_words : Bytes → BindFault → Bytes
bind_words text (bind.UnknownName span) = codes "unknown name " ++ quoted text span
bind_words text (bind.NotGrouped span) = quoted text span ++ codes " is not grouped"
bind_words text bind.JoinForm = codes "join form"
bind_words text (bind.AreaForm span) = codes "area form " ++ quoted text span
bind_words text bind.TooWide = codes "expression too wide"
bind_words text (bind.OrderName span) = codes "unknown order key " ++ quoted text span

-- the radius that is asked for and the one that is allowed, both squared
abbrev pub radius_words : Radius → Bytes
radius_words r = codes "radius " ++ (signed_decimal r.asked ++ (codes " above " ++ signed_decimal r.allowed))

-- the total that is out of range
abbrev pub total_words : TotalOut → Bytes
total_words t = codes "total " ++ (signed_decimal t.total ++ codes " out of range")

-- the reason of a refusal
abbrev pub refusal_words : Bytes → Refusal → Bytes
refusal_words text (refusal.Sql fault) = sql_words fault
refusal_words text (refusal.Bind fault) = bind_words text fault
refusal_words text (refusal.Radius r) = radius_words r
refusal_words text (refusal.Total t) = total_words t

-- the line of a refused query, given its own line and the refusal
unfoldable pub refusal_line : Bytes → Refusal → Bytes
refusal_line text why = line (codes "refused: " ++ refusal_words text why)
