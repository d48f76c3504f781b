use Rattle.std.proofs.Common.{◌∙◌}
use Rattle.std.proofs.lemmas.Option.{IfSome_then}
use Rattle.column_eval.proofs.SingleColumns.{column_fits, column_values, further_bound}
use Rattle.column_eval.proofs.alone.whole_column.Goals as goal

pub returns-clause-all : goal.returns-clause-all
returns-clause-all c =
    IfSome_then c.numbers_if_whole.result c.numbers_if_whole.ensures
    (λ values are. column_values c.args.e.now c.in_ok-col.col c.args.block.now.objects values.now c.in_ok-col.ensures.some (are ∙ c.further.ensures))

pub returns-clause-fits : goal.returns-clause-fits
returns-clause-fits c =
    IfSome_then c.numbers_if_whole.result c.numbers_if_whole.ensures
    (λ values are. column_fits c.args.block.now.objects values.now c.in_ok-col.col c.len.ensures.rows (further_bound c.in_ok-col.col c.if-col-lt-FIRST_COLUMNS.false) (are ∙ c.further.ensures))
