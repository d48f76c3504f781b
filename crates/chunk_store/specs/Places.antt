-- Which rows a chunk and a subchunk contain, and which they need in addition to their own so that a near-neighbour join
-- never leaves them. Each is a list of row numbers: a row's number in the table, from 0. Overlap rows are Qserv's idea
-- (SC 2011); which rows they are is a rule of this repository.
use Rattle.std.specs.Prelude.{ℕ, Bool, not, ◌&&◌, ◌||◌, List, filter, length, map}
use Rattle.std.specs.List.{range_with_len}
use Rattle.sky_vector.specs.Points.{Point}
use Rattle.table_rules.specs.Objects.{Obj, Catalogue}
use Rattle.sky_rules.specs.Partition.{Partition, sub_count}
use Rattle.sky_rules.specs.Bounds.{in_chunk, in_sub, near_sub}
use Rattle.chunk_rules.specs.Places.{places_by}
use Rattle.overlap_tables.specs.Overlaps.{in_full_overlap}
use Rattle.column_block.specs.Blocks.{Stored}

-- the point is in the chunk or in its full overlap, and in the subchunk's near region but not in the subchunk
abbrev pub in_sub_overlap : Partition → ℕ → ℕ → Point → Bool
in_sub_overlap g c s p = (in_chunk g c p || in_full_overlap g c p) && (near_sub g c s p && not (in_sub g c s p))

-- the rows of a chunk
abbrev pub chunk_rows : Partition → List Obj → ℕ → List ℕ
chunk_rows g objects c = places_by (λ o. in_chunk g c o.at) objects

-- the full overlap of a chunk: the rows in its near region that are not in it
abbrev pub full_overlap_rows : Partition → List Obj → ℕ → List ℕ
full_overlap_rows g objects c = places_by (λ o. in_full_overlap g c o.at) objects

-- the rows of a subchunk
abbrev pub sub_rows : Partition → List Obj → ℕ → ℕ → List ℕ
sub_rows g objects c s = places_by (λ o. in_sub g c s o.at) objects

-- the rows of each subchunk of a chunk, in the order of the subchunks' numbers
abbrev pub sub_lists : Partition → List Obj → ℕ → List (List ℕ)
sub_lists g objects c = map (λ s. sub_rows g objects c s) (range_with_len 0 (sub_count g c))

-- the overlap of a subchunk: rows of its chunk or of the chunk's full overlap, in the subchunk's near region and not in
-- the subchunk
abbrev pub sub_overlap_rows : Partition → List Obj → ℕ → ℕ → List ℕ
sub_overlap_rows g objects c s = places_by (λ o. in_sub_overlap g c s o.at) objects

-- the rows of a chunk as columns: those rows of the table that are in its region, in the table's order
abbrev pub chunk_block : Partition → Catalogue → ℕ → Stored
chunk_block g table c = record { width = length table.names; objects = filter (λ o. in_chunk g c o.at) table.objects }
