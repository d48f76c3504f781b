use Rattle.bind_rules.specs.Mentions.{columns_of}
use Rattle.bind_checks.proofs.QualifiedLaws.{some_bare}
use Rattle.bind_checks.proofs.qualified.has_bare.Goals as goal

pub returns : goal.returns
returns c =
    some_bare (columns_of c.args.e.now) c.first_column.result c.is_some.result c.first_column.ensures c.is_some.ensures
