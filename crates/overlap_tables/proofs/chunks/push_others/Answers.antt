use Rattle.std.proofs.Common.{◌≤◌, arith}
use Rattle.sky_vector.specs.Pos.{point}
use Rattle.overlap_tables.specs.Overlaps.{in_full_overlap}
use Rattle.overlap_tables.proofs.Fronts.{stopped_at}
use Rattle.overlap_tables.proofs.Ranges.{then_one}
use Rattle.overlap_tables.proofs.chunks.push_others.Goals as goal

pub loop-chunk-preserved : goal.loop-chunk-preserved
loop-chunk-preserved c =
    let from : c.args.from ≤ c.loop-chunk.chunk = c.loop-chunk.auto.chunk in
    then_one (λ n. in_full_overlap c.args.plan.now n (point c.args.p.now)) c.args.from c.loop-chunk.chunk _ _ _ from
    c.loop-chunk.invariant (rw c.is_other.ensures at c.in_ok-push_if.ensures.all)

pub returns-in_err-push_if-clause-part : goal.returns-in_err-push_if-clause-part
returns-in_err-push_if-clause-part c =
    let from : c.args.from ≤ c.loop-chunk.chunk = c.loop-chunk.auto.chunk in
    stopped_at (λ n. in_full_overlap c.args.plan.now n (point c.args.p.now)) c.args.from c.loop-chunk.chunk c.args.to _ _ _ from (omega arith)
    c.loop-chunk.invariant c.in_err-push_if.ensures.none
