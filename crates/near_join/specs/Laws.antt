-- The lemmas of the join: subchunk by subchunk, with the overlap of each, no pair is missed and none is found twice.
use Rattle.std.specs.Prelude.{ℕ, ℤ, pos, int_le, ◌<◌, ◌≤ℤ◌, ◌++◌, List, [], ◌∷◌, map}
use Rattle.std.specs.List.{filter, flat_map, range_with_len}
use Rattle.std.specs.List.Sorted.{IsPermutation}
use Rattle.sky_vector.specs.Points.{chord_squared, square}
use Rattle.table_rules.specs.Objects.{Obj}
use Rattle.sky_rules.specs.Limits.{IsSky}
use Rattle.sky_rules.specs.Partition.{Partition, chunk_count, overlap_at, sub_count}
use Rattle.sky_rules.specs.Bounds.{in_chunk}
use Rattle.sql_bound.specs.declared.cond.BoundCond.{BoundCond}
use Rattle.sql_bound.specs.declared.query.Shape.TheVariants.{Pairs}
use Rattle.value_rules.specs.Values.{Pick, pair}
use Rattle.answer_rules.specs.Coverage.{AreInTheSky}
use Rattle.answer_rules.specs.Picks.{found, near_pairs}
use Rattle.chunk_rules.specs.Places.{rows_at}
use Rattle.chunk_store.specs.Places.{sub_rows, sub_overlap_rows}
use Rattle.near_join.specs.Walk.{joins, walked_pairs}

-- if the limit is at most the square of the chunk's overlap radius, the walk over its subchunks finds the pairs whose
-- first row the chunk holds, each once
abbrev pub WalkFindsAll : Type 0
WalkFindsAll =
    (g : Partition) (table : List Obj) (limit : ℤ) (conds : List BoundCond) (c : ℕ) → IsSky g → AreInTheSky table
    → c < chunk_count g → limit ≤ℤ square (pos (overlap_at g c))
    → IsPermutation (found g table (Pairs limit) conds (c ∷ [])) (walked_pairs g table (joins limit conds) c)

-- the rows of a subchunk and those of its overlap, as lists of rows
abbrev pub rows_in_reach : Partition → List Obj → ℕ → ℕ → List Obj
rows_in_reach g table c s = rows_at table (sub_rows g table c s ++ sub_overlap_rows g table c s)

-- the pairs of a row with those of the others that are near enough
abbrev pub pairs_with : ℤ → List Obj → Obj → List Pick
pairs_with limit others u = map (pair u) (filter (λ v. int_le (chord_squared u.at v.at) limit) others)

-- if the limit is at most the square of the chunk's overlap radius, the pairs whose first row is in the chunk are those
-- that its subchunks find, each once: a subchunk finds the pairs of its rows with its rows and those of its overlap,
-- over the lists that a store returns
abbrev pub PairsOfSubs : Type 0
PairsOfSubs =
    (g : Partition) (table : List Obj) (c : ℕ) (limit : ℤ) → IsSky g → AreInTheSky table → c < chunk_count g
    → limit ≤ℤ square (pos (overlap_at g c))
    → IsPermutation (filter (λ p. in_chunk g c p.first.at) (near_pairs limit table))
    (flat_map (λ s. flat_map (pairs_with limit (rows_in_reach g table c s)) (rows_at table (sub_rows g table c s)))
    (range_with_len 0 (sub_count g c)))
