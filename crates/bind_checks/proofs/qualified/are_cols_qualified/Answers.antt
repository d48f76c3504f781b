use Rattle.bind_checks.proofs.QualifiedLaws.{none_bare}
use Rattle.bind_checks.proofs.qualified.are_cols_qualified.Goals as goal

pub returns : goal.returns
returns c = none_bare c.args.cols.now c.first_of_columns.result c.is_none.result c.first_of_columns.ensures c.is_none.ensures
