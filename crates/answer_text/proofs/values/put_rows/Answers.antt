use Rattle.sky_io.proofs.Writes.{under_fail, under_more}
use Rattle.transcript_rules.specs.Tables.{row_line}
use Rattle.column_text.proofs.Parting.{next_found}
use Rattle.answer_text.proofs.values.put_rows.Goals as goal

pub returns-in-Failed : goal.returns-in-Failed
returns-in-Failed g c =
    let next = next_found row_line c.args.table.now c.loop-place.place c.row.result.now c.row.ensures.value in
    under_fail _ _ _ _ _ _ (rw next at c.loop-place.invariant.under) c.in-Failed.ensures

pub loop-place-preserved : goal.loop-place-preserved
loop-place-preserved g c =
    let next = next_found row_line c.args.table.now c.loop-place.place c.row.result.now c.row.ensures.value in
    record { under = under_more _ _ _ _ _ _ (rw next at c.loop-place.invariant.under) c.in-Done.ensures }
