use Rattle.std.proofs.Common.{codes}
use Rattle.sky_io.proofs.Writes.{under_fail, under_more}
use Rattle.transcript_rules.specs.Tables.{value_text}
use Rattle.sql_rules.proofs.Listed.{next_part}
use Rattle.answer_text.proofs.values.put_further_values.Goals as goal

pub returns-in-Failed : goal.returns-in-Failed
returns-in-Failed g c =
    let next = next_part (codes ",") value_text c.args.rest.now c.loop-value.value-index c.value-item.result c.loop-value-test.true c.value-item.is in
    under_fail _ _ _ _ _ _ (rw next at c.loop-value.invariant.under) c.in-Failed.ensures

pub loop-value-preserved : goal.loop-value-preserved
loop-value-preserved g c =
    let next = next_part (codes ",") value_text c.args.rest.now c.loop-value.value-index c.value-item.result c.loop-value-test.true c.value-item.is in
    record { under = under_more _ _ _ _ _ _ (rw next at c.loop-value.invariant.under) c.in-Done.ensures }
