use Rattle.std.proofs.Common.{◌≡◌, ◌∙◌, ◌+◌, [], arith, ap, rules, false, get_or}
use Rattle.std.specs.Prelude.{if◌then◌else◌}
use Rattle.column_vectors.specs.Lanes.{values_in}
use Rattle.column_vectors.proofs.Aggregated.{between_few, count_more}
use Rattle.column_vectors.proofs.aggregate.count.Goals as goal

pub overflow_add-count : goal.overflow_add-count
overflow_add-count c =
    let is : c.from-count.result ≡ (if get_or c.args.known.now c.loop-i.i false then 1 else 0) = search rules in
    let few = between_few (values_in [] c.args.known.now) c.args.from c.loop-i.i in
    grind (arith, is, few, c.loop-i.invariant [], c.requires.few, c.loop-i-test.true)

pub loop-i-preserved : goal.loop-i-preserved
loop-i-preserved c = λ numbers.
    let is : c.from-count.result ≡ (if get_or c.args.known.now c.loop-i.i false then 1 else 0) = search rules in
    ap (λ n. c.loop-i.count + n) is
    ∙ count_more numbers c.args.known.now c.args.from c.loop-i.i c.loop-i.count (omega (arith, c.loop-i.auto.i)) (omega (arith, c.loop-i-test.true, c.requires.there))
    (c.loop-i.invariant numbers)
