use Rattle.std.proofs.Common.{◌∙◌, Some, ap, map}
use Rattle.value_rules.specs.Values.{row, value_of}
use Rattle.column_vectors.proofs.PickedColumns.{is_picked_column, picked_values}
use Rattle.column_eval.proofs.expr.values.Goals as goal

pub new-requires : goal.new-requires
new-requires c =
    is_picked_column (λ o. value_of c.args.e.now (row o)) c.args.block.now.objects c.in-Some.column.now c.args.picked.now c.in-Some.ensures.all c.requires.there c.in-Some.ensures.fits

pub returns-in-Some : goal.returns-in-Some
returns-in-Some c =
    c.picked.ensures
    ∙ (ap (map Some) c.new.ensures
    ∙ picked_values (λ o. value_of c.args.e.now (row o)) c.args.block.now.objects c.in-Some.column.now c.args.picked.now c.in-Some.ensures.all c.requires.there)
