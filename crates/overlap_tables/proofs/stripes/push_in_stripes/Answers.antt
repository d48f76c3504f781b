use Rattle.std.proofs.Common.{◌≡◌, ℕ, ◌≤◌, ◌+◌, ◌++◌, arith, subst}
use Rattle.sky_vector.specs.Pos.{point}
use Rattle.sky_plan.proofs.Stripes.{chunks_up}
use Rattle.overlap_tables.specs.Heights.{first_chunk}
use Rattle.overlap_tables.specs.Overlaps.{in_full_overlap, others_between}
use Rattle.overlap_tables.proofs.Fronts.{everything, stopped}
use Rattle.overlap_tables.proofs.Ranges.{then_more}
use Rattle.overlap_tables.proofs.stripes.push_in_stripes.Goals as goal

pub loop-number-preserved : goal.loop-number-preserved
loop-number-preserved c =
    let g = c.args.plan.now in
    let from : c.args.from ≤ c.loop-number.number = c.loop-number.auto.number in record {
      all = then_more (λ n. in_full_overlap g n (point c.args.p.now)) (first_chunk g c.args.from) (first_chunk g c.loop-number.number) (first_chunk g (c.loop-number.number + 1))
          c.args.into.now.items c.loop-number.into.items _ (chunks_up g.stripes c.args.from c.loop-number.number from)
          (chunks_up g.stripes c.loop-number.number (c.loop-number.number + 1) (omega arith))
          c.loop-number.invariant.all c.in_ok-push_in_stripe.ensures.all;
    }

pub returns-in_err-push_in_stripe-clause-part : goal.returns-in_err-push_in_stripe-clause-part
returns-in_err-push_in_stripe-clause-part c =
    let g = c.args.plan.now in
    let from : c.args.from ≤ c.loop-number.number = c.loop-number.auto.number in
    let to = c.loop-number-test.true in
    stopped (λ n. in_full_overlap g n (point c.args.p.now)) (first_chunk g c.args.from) (first_chunk g c.loop-number.number)
    (first_chunk g (c.loop-number.number + 1)) (first_chunk g c.args.to) c.args.into.now.items c.loop-number.into.items _
    (chunks_up g.stripes c.args.from c.loop-number.number from)
    (chunks_up g.stripes c.loop-number.number (c.loop-number.number + 1) (omega arith))
    (chunks_up g.stripes (c.loop-number.number + 1) c.args.to (omega (arith, to)))
    c.loop-number.invariant.all c.in_err-push_in_stripe.ensures.part

pub returns-clause-part : goal.returns-clause-part
returns-clause-part c =
    let g = c.args.plan.now in
    let old = c.args.into.now.items in
    let new = c.loop-number.into.items in
    let no_more = c.loop-number-test.false in
    let within = c.loop-number.auto.number-end in
    let at_end : c.loop-number.number ≡ c.args.to = omega (arith, no_more, within) in
    everything old new _
    (subst (λ (n : ℕ). new ≡ old ++ others_between g (point c.args.p.now) (first_chunk g c.args.from) (first_chunk g n)) at_end c.loop-number.invariant.all)
