-- Functions of an expression, as items.
use Rattle.sql_token.specs.declared.sign.Sign.TheVariants as sign
use Rattle.sql_tree.specs.declared.expr.Expr.{Expr}
use Rattle.sql_tree.specs.declared.query.ItemKind.{ItemKind}
use Rattle.sql_tree.specs.declared.query.ItemKind.TheVariants as what
use Rattle.sql_rules.specs.Symbols.{OfSign}
use Rattle.sql_rules.specs.Readers.{Reader, ◌>>=◌, mark_at}
use Rattle.sql_reader.specs.declared.items.Call.{Call}
use Rattle.sql_reader.specs.declared.items.Call.TheVariants as call

-- the item of a function applied to an expression
abbrev pub kind_by : Call → Expr → ItemKind
kind_by call.Count = what.CountOf
kind_by call.Sum = what.Sum
kind_by call.Min = what.Min
kind_by call.Max = what.Max
kind_by call.Avg = what.Avg

-- the rest of an item after the name of a function: an opening bracket, and its content
abbrev pub called_at : Reader ItemKind → Reader ItemKind
called_at inner ts = mark_at (OfSign sign.Open) ts >>= λ _ us. inner us
