use Rattle.std.proofs.Common.{◌≤◌, ◌^◌, ◌∙◌, ap, subst, sym}
use Rattle.sky_rules.specs.Partition.{greatest_overlap, overlap_at}
use Rattle.sky_plan.proofs.Greatest.{covers_overlaps, greatest_within}
use Rattle.sky_plan.proofs.plan.SkyPlan.greatest_radius.Goals as goal

pub returns-clause-covers : goal.returns-clause-covers
returns-clause-covers c chunk there =
    let e = c.self.invariant.greatest ∙ ap greatest_overlap c.self.view_is in
    subst (λ n. overlap_at c.args.self.now chunk ≤ n) (sym e) (covers_overlaps c.args.self.now chunk there)

pub returns-clause-most : goal.returns-clause-most
returns-clause-most c =
    subst (λ n. n ≤ 2 ^ 24) (sym c.self.invariant.greatest) (greatest_within _ c.self.invariant.sky)
