use Rattle.std.proofs.Common.{◌∙◌, ◌-◌, ◌<◌, ap, arith, refl, sym}
use Rattle.source_filter.proofs.Objects.{block_at, block_long}
use Rattle.source_filter.proofs.id_scan.has_one.Goals as goal

pub returns : goal.returns
returns g c = λ none k low high.
    let long = block_long c.args.ids.now c.args.first c.args.end c.requires.order c.requires.there in
    let there : k - c.args.first < c.loop-k.k = omega (arith, low, high, c.loop-k-test.false, long) in
    ap (g.T.IdTest.passes c.args.test.now) (sym (block_at c.args.ids.now _ c.args.first c.args.end k refl low high))
    ∙ c.loop-k.invariant none (k - c.args.first) there
