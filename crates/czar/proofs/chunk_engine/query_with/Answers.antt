use denote.Ref.{Bor}
use lib.Dec.{ltb}
use Rattle.std.proofs.Common.{rules, of_calls, ℕ}
use Rattle.std.proofs.lemmas.List.Sorted.{IsPartitionPoint-from_clause}
use Rattle.answer_rules.specs.declared.rewritten.ChunkQuery.{ChunkQuery}
use Rattle.czar.proofs.Scanning.{found, parted}
use Rattle.czar.proofs.chunk_engine.query_with.Goals as goal

pub bounds-queries-place : goal.bounds-queries-place
bounds-queries-place c =
    let es = c.args.queries.now in
    (found es c.args.q c.partition_point-place.result c.requires.ascend c.requires.known
    (IsPartitionPoint-from_clause (λ (e : ℕ × Bor ChunkQuery). ltb e.0 c.args.q) es _ c.partition_point-place.ensures.partitioned
    (parted es c.args.q c.requires.ascend) (λ a r f k. search (rules, of_calls)))).low

pub bounds-queries-place-2 : goal.bounds-queries-place-2
bounds-queries-place-2 c = bounds-queries-place c

pub returns : goal.returns
returns c =
    let es = c.args.queries.now in
    (found es c.args.q c.partition_point-place.result c.requires.ascend c.requires.known
    (IsPartitionPoint-from_clause (λ (e : ℕ × Bor ChunkQuery). ltb e.0 c.args.q) es _ c.partition_point-place.ensures.partitioned
    (parted es c.args.q c.requires.ascend) (λ a r f k. search (rules, of_calls)))).is c.index-queries-place.result
