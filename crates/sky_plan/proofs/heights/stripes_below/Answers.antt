use Rattle.std.proofs.Common.{rules, of_calls, int_le}
use Rattle.std.proofs.lemmas.List.Sorted.{IsPartitionPoint-from_clause}
use Rattle.sky_rules.specs.Partition.{Stripe}
use Rattle.sky_plan.proofs.heights.stripes_below.Goals as goal

pub returns-else-stripes-le-STRIPES_COUNTED-clause-point : goal.returns-else-stripes-le-STRIPES_COUNTED-clause-point
returns-else-stripes-le-STRIPES_COUNTED-clause-point c =
    IsPartitionPoint-from_clause (λ (s : Stripe). int_le s.z_low c.args.z) _ _ c.partition_point.ensures.partitioned c.requires (λ a r q k. search (rules, of_calls))
