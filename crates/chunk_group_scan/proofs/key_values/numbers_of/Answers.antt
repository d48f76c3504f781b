use Rattle.std.proofs.Common.{◌∙◌, ◌+◌, ap, sym}
use Rattle.std.proofs.lemmas.Option.{IfSome_then}
use Rattle.table_rules.specs.declared.limits.TheConstants.{FIRST_COLUMNS}
use Rattle.sky_row.specs.Columns.{column_in}
use Rattle.column_vectors.proofs.Reading.{ids_column}
use Rattle.chunk_group_scan.proofs.KeyColumn.{key_column}
use Rattle.chunk_group_scan.proofs.key_values.numbers_of.Goals as goal

pub returns-in-0 : goal.returns-in-0
returns-in-0 c =
    ids_column c.args.block.now.objects c.ids.result.now c.ids.ensures
    ∙ (ap (column_in c.args.block.now.objects) (sym c.in-0.is)
    ∙ key_column (FIRST_COLUMNS + c.args.block.now.width) c.args.key.now c.args.block.now.objects c.requires.col)

pub returns-in_default : goal.returns-in_default
returns-in_default c =
    IfSome_then c.numbers_if_whole.result c.numbers_if_whole.ensures
    (λ numbers are. are ∙ (c.further.ensures ∙ key_column (FIRST_COLUMNS + c.args.block.now.width) c.args.key.now c.args.block.now.objects c.requires.col))
