use Rattle.std.proofs.Common.{rules, ◌≡◌, ◌-◌, ◌<◌, ◌≤◌, ℕ, List, length, true, false, leb, subst, sym}
use Rattle.std.specs.List.Sorted.{IsPartitionedBy, IsPartitionPoint}
use Rattle.std.proofs.lemmas.List.Sorted.{IsPartitionPoint-from_clause}
use Rattle.sky_rules.specs.Partition.{Partition, chunk_count}
use Rattle.sky_plan.specs.Plans.{HasChunk}
use Rattle.sky_plan.proofs.Searches.{chunk_some, chunk_found, firsts_parted}
use Rattle.sky_plan.proofs.plan.SkyPlan.stripe_with.Goals as goal

-- what the bisection found among the first chunks
point : (c : goal.After-partition_point) → IsPartitionPoint (λ y. leb y c.args.chunk ≡ true) (λ y. leb y c.args.chunk ≡ false) c.self.inside.firsts.items c.partition_point.result
point c =
    let value = c.deref.ensures.value in
    let parted = subst (λ (l : List ℕ). IsPartitionedBy (λ y. leb y c.args.chunk) l) (sym value) (firsts_parted _ _ c.args.chunk c.self.invariant.firsts) in
    subst (λ (l : List ℕ). IsPartitionPoint (λ y. leb y c.args.chunk ≡ true) (λ y. leb y c.args.chunk ≡ false) l c.partition_point.result) value
    (IsPartitionPoint-from_clause (λ y. leb y c.args.chunk) _ _ c.partition_point.ensures.partitioned parted (λ a r q k. search rules))

pub overflow_sub-result : goal.overflow_sub-result
overflow_sub-result c = chunk_some _ c.self.inside.firsts.items c.args.chunk c.partition_point.result c.self.invariant.sky.some c.self.invariant.firsts (point c)

pub returns : goal.returns
returns c =
    let bound = subst (λ (l : List ℕ). c.partition_point.result ≤ length l) c.deref.ensures.value c.partition_point.ensures.bound in
    let h = subst (λ (g : Partition). c.args.chunk < chunk_count g) (sym c.self.view_is) c.requires in
    subst (λ (g : Partition). HasChunk g (c.partition_point.result - 1) c.args.chunk) c.self.view_is
    (chunk_found _ c.self.inside.firsts.items c.args.chunk c.partition_point.result c.self.invariant.sky.some c.self.invariant.firsts h bound (point c))
