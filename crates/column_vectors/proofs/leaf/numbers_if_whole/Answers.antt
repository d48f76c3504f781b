use Rattle.std.proofs.Common.{◌∙◌, Some, ap, map}
use Rattle.column_vectors.proofs.SingleColumns.{some_numbers}
use Rattle.column_vectors.proofs.leaf.numbers_if_whole.Goals as goal

pub returns-in-None : goal.returns-in-None
returns-in-None c = ap (map Some) c.values.ensures ∙ some_numbers c.args.column.now c.in-None.ensures.none
