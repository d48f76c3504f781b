use Rattle.std.proofs.Common.{◌∙◌, ap}
use Rattle.std.specs.Option.{is_none}
use Rattle.bind_rules.specs.Widths.{width_of}
use Rattle.bind_checks.proofs.Narrow.{none_narrow}
use Rattle.bind_checks.proofs.expr_widths.is_too_wide.Goals as goal

pub returns-in-Some : goal.returns-in-Some
returns-in-Some g c = ap is_none c.in-Some.ensures ∙ none_narrow (width_of (g.C.Columns.size c.args.columns.now) c.args.e.now)

pub returns-in-None : goal.returns-in-None
returns-in-None g c = ap is_none c.in-None.ensures ∙ none_narrow (width_of (g.C.Columns.size c.args.columns.now) c.args.e.now)
