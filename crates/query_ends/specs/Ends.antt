-- How a query ended.
use Rattle.session_rules.specs.declared.end.EndKind.{EndKind}
use Rattle.session_rules.specs.declared.end.EndKind.TheVariants as kind
use Rattle.query_ends.specs.declared.end.End.{End}
use Rattle.query_ends.specs.declared.end.End.TheVariants.{Answered, Refused, Cancelled, Spent}

-- how a query ended
abbrev pub kind_of : End → EndKind
kind_of (Answered head table chunks) = kind.Answered
kind_of (Refused why) = kind.Refused
kind_of Cancelled = kind.Cancelled
kind_of Spent = kind.Spent
