use Rattle.std.proofs.Common.{arith}
use Rattle.sky_vector.specs.Pos.{point}
use Rattle.sky_rules.specs.Partition.{chunk_count}
use Rattle.overlap_tables.specs.Overlaps.{in_full_overlap}
use Rattle.overlap_tables.proofs.Fronts.{stopped_below}
use Rattle.overlap_tables.proofs.Ranges.{then_one}
use Rattle.overlap_tables.proofs.chunks.push_by_test.Goals as goal

pub returns-in_err-push_if-clause-part : goal.returns-in_err-push_if-clause-part
returns-in_err-push_if-clause-part c =
    let there = c.loop-chunk-test.true in
    let count = c.chunks-chunk-end.ensures.count in
    stopped_below (λ n. in_full_overlap c.args.plan.now n (point c.args.p.now)) c.loop-chunk.chunk (chunk_count c.args.plan.now) _ _ _
    (omega (arith, there, count)) c.loop-chunk.invariant c.in_err-push_if.ensures.none

pub loop-chunk-preserved : goal.loop-chunk-preserved
loop-chunk-preserved c =
    then_one (λ n. in_full_overlap c.args.plan.now n (point c.args.p.now)) 0 c.loop-chunk.chunk _ _ _ (omega arith)
    c.loop-chunk.invariant (rw c.needs.ensures at c.in_ok-push_if.ensures.all)
