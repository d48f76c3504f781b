use Rattle.sky_io.proofs.Writes.{under_fail, under_more}
use Rattle.explain_text.specs.Explaining.{parts_of}
use Rattle.column_text.proofs.Parting.{next_given}
use Rattle.explain_text.proofs.group_parts.put_further_parts.Goals as goal

pub returns-in-Failed : goal.returns-in-Failed
returns-in-Failed g c =
    let next = next_given c.loop-item.begun parts_of c.args.rest.now c.loop-item.item-index c.item-item.result c.loop-item-test.true c.item-item.is in
    under_fail _ _ _ _ _ _ (rw next at c.loop-item.invariant.under) c.in-Failed.ensures

pub loop-item-preserved : goal.loop-item-preserved
loop-item-preserved g c =
    let next = next_given c.loop-item.begun parts_of c.args.rest.now c.loop-item.item-index c.item-item.result c.loop-item-test.true c.item-item.is in
    record { under = rw c.goes_on-begun.ensures (under_more _ _ _ _ _ _ (rw next at c.loop-item.invariant.under) c.in-Done.ensures) }
