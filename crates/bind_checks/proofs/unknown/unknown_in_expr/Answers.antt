use Rattle.std.proofs.Common.{◌∙◌}
use Rattle.bind_rules.specs.Mentions.{columns_of}
use Rattle.bind_checks.proofs.Unknowns.{as_mentions}
use Rattle.bind_checks.proofs.unknown.unknown_in_expr.Goals as goal

pub returns : goal.returns
returns g c = c.first_column.ensures ∙ as_mentions
    (g.C.Columns.known c.args.columns.now) (columns_of c.args.e.now)
