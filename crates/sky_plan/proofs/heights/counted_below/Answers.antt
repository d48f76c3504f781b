use Rattle.std.proofs.Common.{rules, ◌≡◌, ◌<◌, ◌+◌, ℤ, int_le, length, subst, sym, refl, w64, FitsSigned, to_z, of_z, if◌then◌else◌, Bool, true, false, ap, ◌∙◌}
use mir.Val.{bool_byte}
use Rattle.std.specs.List.Sorted.{IsPartitionedBy}
use Rattle.std.proofs.lemmas.Int.{to_z-of_z}
use Rattle.sky_rules.specs.Partition.{Stripe}
use Rattle.sky_plan.proofs.Searches.{counted_more}
use Rattle.sky_plan.proofs.heights.counted_below.Goals as goal

-- a truth as a number
number : (b : Bool) → bool_byte b ≡ (if b then 1 else 0)
number true = refl
number false = refl

pub loop-stripe-preserved : goal.loop-stripe-preserved
loop-stripe-preserved c =
    let z : ℤ = to_z w64 (of_z w64 c.args.z) in
    let fits : FitsSigned w64 c.args.z = search rules in
    let parted = subst (λ (z : ℤ). IsPartitionedBy (λ (s : Stripe). int_le s.z_low z) c.args.stripes.now) (sym (to_z-of_z w64 c.args.z fits)) c.requires in
    let low : c.loop-stripe.stripe-index < length c.args.stripes.now = search rules in
    let n = c.loop-stripe.count in
    let inside : FitsSigned w64 c.stripe.inside.z_low = search rules in
    let same : to_z w64 (of_z w64 c.stripe.inside.z_low) ≡ c.stripe-item.result.z_low =
    to_z-of_z w64 c.stripe.inside.z_low inside ∙ ap (λ (s : Stripe). s.z_low) c.stripe.view_is in
    let step = counted_more (λ (s : Stripe). int_le s.z_low z) c.args.stripes.now c.loop-stripe.stripe-index n (n + c.from-count.result) c.stripe-item.result
    parted low c.stripe-item.is c.loop-stripe.invariant.few c.loop-stripe.invariant.below c.loop-stripe.invariant.above
    (int_le c.stripe-item.result.z_low z) refl
    (ap (λ k. n + k) (c.from-count.ensures ∙ (number _ ∙ ap (λ (low : ℤ). if int_le low z then 1 else 0) same))) in
    record { few = step.0; below = step.1.0; above = step.1.1 }
