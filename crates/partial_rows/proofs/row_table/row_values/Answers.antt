use Rattle.partial_rows.proofs.Tabling.{one_row_more}
use Rattle.partial_rows.proofs.row_table.row_values.Goals as goal

pub loop-row-preserved : goal.loop-row-preserved
loop-row-preserved c =
    one_row_more c.args.cells.now c.args.items.now c.args.rows.now c.loop-row.row-index _ c.loop-row.values.items c.put_row.new.values.items c.cells_of.result.now c.loop-row-test.true c.cells_of.ensures c.in_ok-put_row.ensures c.loop-row.invariant
