use Rattle.sky_io.proofs.Writes.{under_fail, under_more}
use Rattle.column_text.proofs.Places.{next_place}
use Rattle.column_text.proofs.column_places.put_places.Goals as goal

pub returns-in-Failed : goal.returns-in-Failed
returns-in-Failed g c =
    let next = next_place c.loop-place.place c.args.to c.loop-place-test.true in
    under_fail _ _ _ _ _ _ (rw next at c.loop-place.invariant.under) c.in-Failed.ensures

pub loop-place-preserved : goal.loop-place-preserved
loop-place-preserved g c =
    let next = next_place c.loop-place.place c.args.to c.loop-place-test.true in
    record { under = under_more _ _ _ _ _ _ (rw next at c.loop-place.invariant.under) c.in-Done.ensures }
