use Rattle.std.proofs.Common.{◌∙◌}
use Rattle.bind_checks.proofs.Unknowns.{as_mentions}
use Rattle.bind_checks.proofs.unknown.unknown_in_columns.Goals as goal

pub returns : goal.returns
returns g c = c.first_of_columns.ensures ∙ as_mentions
    (g.C.Columns.known c.args.columns.now) c.args.cols.now
