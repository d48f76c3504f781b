use Rattle.std.proofs.Common.{◌<◌, ◌≤◌, arith, length}
use Rattle.sky_io.proofs.Writes.{under_end, under_fail, under_more}
use Rattle.answer_text.proofs.BlocksByPlace.{next_block, no_block}
use Rattle.answer_text.proofs.blocks.put_blocks.Goals as goal

pub returns : goal.returns
returns g c =
    let blocks = g.B.Blocks.blocks c.args.text.now in
    let last : length blocks ≤ c.loop-place.place = omega (arith, c.requires.count, c.loop-place-test.false) in
    under_end _ _ _ (rw (no_block blocks c.loop-place.place last) at c.loop-place.invariant.under)

pub returns-in-Failed : goal.returns-in-Failed
returns-in-Failed g c =
    let blocks = g.B.Blocks.blocks c.args.text.now in
    let low : c.loop-place.place < length blocks = omega (arith, c.requires.count, c.loop-place-test.true) in
    under_fail _ _ _ _ _ _ (rw (next_block blocks c.loop-place.place low) at c.loop-place.invariant.under) c.in-Failed.ensures

pub loop-place-preserved : goal.loop-place-preserved
loop-place-preserved g c =
    let blocks = g.B.Blocks.blocks c.args.text.now in
    let low : c.loop-place.place < length blocks = omega (arith, c.requires.count, c.loop-place-test.true) in
    record {
      under = under_more _ _ _ _ _ _ (rw (next_block blocks c.loop-place.place low) at c.loop-place.invariant.under) c.in-Done.ensures;
    }
