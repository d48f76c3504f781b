-- The chunks that hold a row are chunks of the partition, and ascend; none is left out.
use Rattle.std.proofs.Common.{◌<◌}
use Rattle.std.proofs.lemmas.List.Elements.{All-filter}
use Rattle.std.proofs.lemmas.List.Kept.{AllPairs-filter}
use Rattle.sky_rules.specs.Partition.{chunk_count}
use Rattle.sky_rules.specs.Chunks.{all_chunks}
use Rattle.sky_rules.proofs.Ranges.{listed, range_ascends, range_below}
use Rattle.chunk_rules.specs.Filled.{is_filled, EachFilledIsListed, FilledAreChunks, FilledAscend}

pub filled_are_chunks : FilledAreChunks
filled_are_chunks g table = All-filter (is_filled g table) (λ c. c < chunk_count g) (all_chunks g) (range_below (chunk_count g))

pub filled_ascend : FilledAscend
filled_ascend g table = AllPairs-filter (λ a b. a < b) (is_filled g table) (all_chunks g) (range_ascends (chunk_count g))

pub each_filled_is_listed : EachFilledIsListed
each_filled_is_listed g table c there h = listed (is_filled g table) c (chunk_count g) there h
