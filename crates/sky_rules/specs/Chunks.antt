-- The chunks of a partition.
use Rattle.std.specs.Prelude.{ℕ, List}
use Rattle.std.specs.List.{range_with_len}
use Rattle.sky_rules.specs.Partition.{Partition, chunk_count}

-- the numbers of all chunks, ascending
abbrev pub all_chunks : Partition → List ℕ
all_chunks g = range_with_len 0 (chunk_count g)
