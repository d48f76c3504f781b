use Rattle.std.proofs.Common.{◌∙◌, arith}
use Rattle.column_vectors.proofs.Aggregated.{null_more}
use Rattle.column_vectors.proofs.least_greatest.first_known.Goals as goal

pub loop-i-preserved : goal.loop-i-preserved
loop-i-preserved c = λ numbers.
    null_more numbers c.args.known.now c.args.from c.loop-i.i (omega (arith, c.loop-i.auto.i)) (omega (arith, c.loop-i-test.true, c.requires.there)) c.if-known-i.false
    ∙ c.loop-i.invariant numbers
