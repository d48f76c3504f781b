use Rattle.partial_rows.proofs.CompactRows.{one_compact_more}
use Rattle.partial_rows.proofs.row_table.compact_values.Goals as goal

pub loop-row-preserved : goal.loop-row-preserved
loop-row-preserved c =
    one_compact_more c.args.cells.now c.args.items.now c.args.width c.args.compact.now c.loop-row.row-index _ c.loop-row.values.items c.put_row.new.values.items c.part.result.now c.loop-row-test.true c.part.ensures c.in_ok-put_row.ensures c.loop-row.invariant
