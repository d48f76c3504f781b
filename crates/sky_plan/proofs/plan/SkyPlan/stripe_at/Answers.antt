use Rattle.std.proofs.Common.{rules, ◌≡◌, ◌-◌, ◌≤◌, ℤ, List, length, true, false, int_le, subst, sym, w64, FitsSigned}
use Rattle.std.proofs.lemmas.Int.{to_z-of_z}
use Rattle.std.specs.List.Sorted.{IsPartitionedBy, IsPartitionPoint}
use Rattle.sky_rules.specs.Partition.{Stripe, Partition}
use Rattle.sky_plan.specs.Sites.{SpansHeight}
use Rattle.sky_plan.proofs.Searches.{height_some, height_found, bounds_parted}
use Rattle.sky_plan.proofs.plan.SkyPlan.stripe_at.Goals as goal

pub stripes_below-requires : goal.stripes_below-requires
stripes_below-requires c =
    let fits : FitsSigned w64 c.args.z = search rules in
    subst (λ (z : ℤ). IsPartitionedBy (λ (s : Stripe). int_le s.z_low z) c.as_slice.result.now) (sym (to_z-of_z w64 c.args.z fits))
    (subst (λ (l : List Stripe). IsPartitionedBy (λ (s : Stripe). int_le s.z_low c.args.z) l) (sym c.as_slice.ensures.value)
    (bounds_parted (record { stripes = c.self.inside.stripes.items }) c.args.z c.self.invariant.sky))

-- where the height stands among the stripes
point : (c : goal.After-stripes_below)
    → IsPartitionPoint (λ (s : Stripe). int_le s.z_low c.args.z ≡ true) (λ (s : Stripe). int_le s.z_low c.args.z ≡ false) c.self.inside.stripes.items c.stripes_below.result
point c =
    let fits : FitsSigned w64 c.args.z = search rules in
    subst (λ (l : List Stripe). IsPartitionPoint (λ (s : Stripe). int_le s.z_low c.args.z ≡ true) (λ (s : Stripe). int_le s.z_low c.args.z ≡ false) l c.stripes_below.result)
    c.as_slice.ensures.value
    (subst (λ (z : ℤ). IsPartitionPoint (λ (s : Stripe). int_le s.z_low z ≡ true) (λ (s : Stripe). int_le s.z_low z ≡ false) c.as_slice.result.now c.stripes_below.result)
    (to_z-of_z w64 c.args.z fits) c.stripes_below.ensures.point)

pub overflow_sub-result : goal.overflow_sub-result
overflow_sub-result c = height_some (record { stripes = c.self.inside.stripes.items }) c.args.z c.stripes_below.result c.self.invariant.sky c.requires.bottom (point c)

pub returns : goal.returns
returns c =
    let bound = subst (λ (l : List Stripe). c.stripes_below.result ≤ length l) c.as_slice.ensures.value c.stripes_below.ensures.bound in
    subst (λ (g : Partition). SpansHeight g (c.stripes_below.result - 1) c.args.z) c.self.view_is
    (height_found (record { stripes = c.self.inside.stripes.items }) c.args.z c.stripes_below.result c.self.invariant.sky c.requires.bottom c.requires.end bound (point c))
