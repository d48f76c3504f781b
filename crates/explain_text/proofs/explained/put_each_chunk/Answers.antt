use Rattle.sky_io.proofs.Writes.{under_fail, under_more}
use Rattle.explain_text.specs.Explaining.{spaced_number}
use Rattle.sql_rules.proofs.Listed.{next_listed}
use Rattle.explain_text.proofs.explained.put_each_chunk.Goals as goal

pub returns-in-Failed : goal.returns-in-Failed
returns-in-Failed g c =
    let next = next_listed spaced_number c.args.chunks.now c.loop-chunk.chunk-index 0 c.loop-chunk-test.true in
    under_fail _ _ _ _ _ _ (rw next at c.loop-chunk.invariant.under) c.in-Failed.ensures

pub loop-chunk-preserved : goal.loop-chunk-preserved
loop-chunk-preserved g c =
    let next = next_listed spaced_number c.args.chunks.now c.loop-chunk.chunk-index 0 c.loop-chunk-test.true in
    record { under = under_more _ _ _ _ _ _ (rw next at c.loop-chunk.invariant.under) c.in-Done.ensures }
