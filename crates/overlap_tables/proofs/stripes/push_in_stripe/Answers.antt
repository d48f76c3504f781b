use Rattle.std.proofs.Common.{◌∙◌, ap, arith}
use Rattle.std.proofs.lemmas.Result.{IfOk-weaker}
use Rattle.sky_vector.specs.Pos.{point}
use Rattle.sky_rules.specs.Partition.{Stripe}
use Rattle.overlap_tables.proofs.Fronts.{in_first, in_second, in_third, runs_of_stripe}
use Rattle.overlap_tables.proofs.InStripe.{chunk_in, stripe_pushed}
use Rattle.overlap_tables.proofs.stripes.push_in_stripe.Goals as goal

pub push_others-requires-clause-to : goal.push_others-requires-clause-to
push_others-requires-clause-to c =
    let row = c.candidates-near.ensures.row in
    let second = row.second in
    let third = row.third in
    let fourth = row.fourth in
    let fifth = row.fifth in
    let last = row.last in
    chunk_in c.args.plan.now c.args.number c.first_of-first.result c.chunks.result c.candidates-near.result.low_end c.requires.there c.first_of-first.ensures
    (c.chunks.ensures ∙ ap (λ (s : Stripe). s.chunks) c.stripe_numbered-stripe.ensures.value) (omega (arith, second, third, fourth, fifth, last))

pub push_others-requires-2-clause-to : goal.push_others-requires-2-clause-to
push_others-requires-2-clause-to c =
    let row = c.candidates-near.ensures.row in
    let fourth = row.fourth in
    let fifth = row.fifth in
    let last = row.last in
    chunk_in c.args.plan.now c.args.number c.first_of-first.result c.chunks.result c.candidates-near.result.middle_end c.requires.there c.first_of-first.ensures
    (c.chunks.ensures ∙ ap (λ (s : Stripe). s.chunks) c.stripe_numbered-stripe.ensures.value) (omega (arith, fourth, fifth, last))

pub push_others-requires-3-clause-to : goal.push_others-requires-3-clause-to
push_others-requires-3-clause-to c =
    chunk_in c.args.plan.now c.args.number c.first_of-first.result c.chunks.result c.candidates-near.result.high_end c.requires.there c.first_of-first.ensures
    (c.chunks.ensures ∙ ap (λ (s : Stripe). s.chunks) c.stripe_numbered-stripe.ensures.value) c.candidates-near.ensures.row.last

pub returns-clause-all : goal.returns-clause-all
returns-clause-all c =
    IfOk-weaker c.push_others-3.result _ _ (λ done ef.
    stripe_pushed c.args.plan.now c.args.number c.first_of-first.result c.chunks.result c.overlap.result
    _ _ _ _ _ _ (point c.args.p.now) c.args.into.now.items c.push_others.new.into.items c.push_others-2.new.into.items _ c.requires.there c.first_of-first.ensures
    (c.chunks.ensures ∙ ap (λ (s : Stripe). s.chunks) c.stripe_numbered-stripe.ensures.value)
    (c.overlap.ensures ∙ ap (λ (s : Stripe). s.overlap) c.stripe_numbered-stripe.ensures.value)
    c.candidates-near.ensures c.in_ok-push_others.ensures.all c.in_ok-push_others-2.ensures.all ef) c.push_others-3.ensures.all

pub returns-in_err-push_others-clause-part : goal.returns-in_err-push_others-clause-part
returns-in_err-push_others-clause-part c =
    in_first c.args.into.now.items c.push_others.new.into.items _ _ _ _
    (runs_of_stripe c.args.plan.now c.args.number c.first_of-first.result c.chunks.result c.overlap.result _ _ _ _ _ _ (point c.args.p.now)
    c.requires.there c.first_of-first.ensures
    (c.chunks.ensures ∙ ap (λ (s : Stripe). s.chunks) c.stripe_numbered-stripe.ensures.value)
    (c.overlap.ensures ∙ ap (λ (s : Stripe). s.overlap) c.stripe_numbered-stripe.ensures.value) c.candidates-near.ensures)
    c.push_others.ensures.part

pub returns-in_err-push_others-2-clause-part : goal.returns-in_err-push_others-2-clause-part
returns-in_err-push_others-2-clause-part c =
    in_second c.args.into.now.items c.push_others.new.into.items c.push_others-2.new.into.items _ _ _ _
    (runs_of_stripe c.args.plan.now c.args.number c.first_of-first.result c.chunks.result c.overlap.result _ _ _ _ _ _ (point c.args.p.now)
    c.requires.there c.first_of-first.ensures
    (c.chunks.ensures ∙ ap (λ (s : Stripe). s.chunks) c.stripe_numbered-stripe.ensures.value)
    (c.overlap.ensures ∙ ap (λ (s : Stripe). s.overlap) c.stripe_numbered-stripe.ensures.value) c.candidates-near.ensures)
    c.in_ok-push_others.ensures.all c.push_others-2.ensures.part

pub returns-clause-part : goal.returns-clause-part
returns-clause-part c =
    in_third c.args.into.now.items c.push_others.new.into.items c.push_others-2.new.into.items c.push_others-3.new.into.items _ _ _ _
    (runs_of_stripe c.args.plan.now c.args.number c.first_of-first.result c.chunks.result c.overlap.result _ _ _ _ _ _ (point c.args.p.now)
    c.requires.there c.first_of-first.ensures
    (c.chunks.ensures ∙ ap (λ (s : Stripe). s.chunks) c.stripe_numbered-stripe.ensures.value)
    (c.overlap.ensures ∙ ap (λ (s : Stripe). s.overlap) c.stripe_numbered-stripe.ensures.value) c.candidates-near.ensures)
    c.in_ok-push_others.ensures.all c.in_ok-push_others-2.ensures.all c.push_others-3.ensures.part
