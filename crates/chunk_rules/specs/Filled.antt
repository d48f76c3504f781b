-- The chunks of a partition, and which of them hold a row of a table.
use Rattle.std.specs.Prelude.{◌≡◌, ℕ, ◌<◌, Bool, true, List, All, AllPairs, filter}
use Rattle.std.specs.List.{Contains, list_any}
use Rattle.table_rules.specs.Objects.{Obj}
use Rattle.sky_rules.specs.Partition.{Partition, chunk_count}
use Rattle.sky_rules.specs.Chunks.{all_chunks}
use Rattle.sky_rules.specs.Bounds.{in_chunk}

-- the chunk holds a row
abbrev pub is_filled : Partition → List Obj → ℕ → Bool
is_filled g table c = list_any (λ o. in_chunk g c o.at) table

-- the chunks that hold a row, in ascending order
abbrev pub filled_chunks : Partition → List Obj → List ℕ
filled_chunks g table = filter (λ c. is_filled g table c) (all_chunks g)

-- the filled chunks are chunks of the partition
abbrev pub FilledAreChunks : Type 0
FilledAreChunks = (g : Partition) (table : List Obj) → All (λ c. c < chunk_count g) (filled_chunks g table)

-- the filled chunks ascend
abbrev pub FilledAscend : Type 0
FilledAscend = (g : Partition) (table : List Obj) → AllPairs (λ a b. a < b) (filled_chunks g table)

-- each chunk that holds a row is among the filled chunks
abbrev pub EachFilledIsListed : Type 0
EachFilledIsListed =
    (g : Partition) (table : List Obj) (c : ℕ) → c < chunk_count g → is_filled g table c ≡ true
    → Contains (filled_chunks g table) c
