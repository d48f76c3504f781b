use Rattle.std.proofs.Common.{rules, int_le, int_lt}
use Rattle.std.proofs.lemmas.List.Sorted.{IsPartitionPoint-from_clause}
use Rattle.near_join.proofs.Windows.{below_first, upto_first, between_is, nothing_between}
use Rattle.near_join.proofs.heights.between_narrow.Goals as goal

pub returns-then-from-to : goal.returns-then-from-to
returns-then-from-to c =
    let zs = c.args.zs.now in
    let from = IsPartitionPoint-from_clause (λ a. int_lt a c.args.low) _ _ c.partition_point-from.ensures.partitioned (below_first zs c.args.low c.requires) (λ a r q k. search rules) in
    let to = IsPartitionPoint-from_clause (λ a. int_le a c.args.high) _ _ c.partition_point-to.ensures.partitioned (upto_first zs c.args.high c.requires) (λ a r q k. search rules) in
    between_is zs c.args.low c.args.high _ _ c.partition_point-from.ensures.bound c.partition_point-to.ensures.bound from to c.if-from-to.true

pub returns-else-from-to : goal.returns-else-from-to
returns-else-from-to c =
    let zs = c.args.zs.now in
    let from = IsPartitionPoint-from_clause (λ a. int_lt a c.args.low) _ _ c.partition_point-from.ensures.partitioned (below_first zs c.args.low c.requires) (λ a r q k. search rules) in
    let to = IsPartitionPoint-from_clause (λ a. int_le a c.args.high) _ _ c.partition_point-to.ensures.partitioned (upto_first zs c.args.high c.requires) (λ a r q k. search rules) in
    nothing_between zs c.args.low c.args.high _ _ from to c.if-from-to.false
