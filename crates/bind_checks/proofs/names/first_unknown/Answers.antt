use Rattle.std.proofs.Common.{◌∙◌, ap}
use Rattle.std.specs.Option.{option_map}
use Rattle.bind_rules.specs.declared.fault.BindFault.TheVariants as fault
use Rattle.bind_checks.proofs.Unknowns.{as_unknown_name}
use Rattle.bind_checks.proofs.names.first_unknown.Goals as goal

pub returns : goal.returns
returns g c =
    ap (option_map (λ span. fault.UnknownName span)) c.unknown_mention.ensures ∙ as_unknown_name
    (g.C.Columns.known c.args.columns.now) c.args.query.now
