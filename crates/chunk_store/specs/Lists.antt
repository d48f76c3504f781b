-- The lists of row numbers in a store, one for each chunk.
use Rattle.std.specs.Prelude.{◌≡◌, ◌≢◌, ℕ, ◌<◌, ◌≤◌, ◌==◌, Bool, true, false, List, [], ◌∷◌, ◌++◌, if◌then◌else◌, length, get_or}
use Rattle.std.specs.Prelude.{All, slice_get, filter, map}
use Rattle.std.specs.List.{range_with_len}
use Rattle.table_rules.specs.Objects.{Obj, Catalogue}
use Rattle.sky_rules.specs.Limits.{IsSky}
use Rattle.sky_rules.specs.Partition.{Partition, chunk_count, sub_count}
use Rattle.sky_rules.specs.Bounds.{in_chunk, in_sub}
use Rattle.overlap_tables.specs.Overlaps.{in_full_overlap}
use Rattle.chunk_rules.specs.Filled.{filled_chunks}
use Rattle.chunk_rules.specs.Places.{passes}
use Rattle.column_lists.specs.Columns.{Parts, no_rows}
use Rattle.sky_row.specs.Columns.{objects_at}
use Rattle.column_lists.specs.Filling.{AreBegun}
use Rattle.column_block.specs.Blocks.{Stored}
use Rattle.chunk_store.specs.Places.{chunk_block}

-- the list has an element
abbrev pub has_some : List ℕ → Bool
has_some [] = false
has_some (place ∷ rest) = true

-- the number alone if `is` is true, otherwise nothing
abbrev pub kept_if : Bool → ℕ → List ℕ
kept_if is n = if is then n ∷ [] else []

-- the row number, once for each time that the chunk is among the given ones
abbrev pub as_often : ℕ → ℕ → List ℕ → List ℕ
as_often place c chunks = map (λ d. place) (filter (λ d. d == c) chunks)

-- The row number was appended to the lists of these chunks.
pub record Pushed (chunks : List ℕ) (place : ℕ) (old new : List (List ℕ)) : Type 0 where
  pub same : length new ≡ length old
  pub each : (c : ℕ) → c < length old → get_or new c [] ≡ get_or old c [] ++ as_often place c chunks

-- among n row numbers that begin with `from`, those whose object passes the test
abbrev pub places_from : (from n : ℕ) → (Obj → Bool) → List Obj → List ℕ
places_from from n test objects = filter (λ i. passes test (slice_get objects i)) (range_with_len from n)

-- the row numbers below n of the objects that pass the test
abbrev pub places_below : ℕ → (Obj → Bool) → List Obj → List ℕ
places_below n test objects = places_from 0 n test objects

-- A list for each of the given number of chunks: among n row numbers that begin with `from`, those whose object passes
-- the chunk's test.
pub record AreListsFrom (test : ℕ → Obj → Bool) (count : ℕ) (objects : List Obj) (from n : ℕ) (lists : List (List ℕ)) : Type 0 where
  pub all : length lists ≡ count
  pub each : (c : ℕ) → c < count → get_or lists c [] ≡ places_from from n (test c) objects

-- a list for each of the given number of chunks: the row numbers below n whose object passes the chunk's test
abbrev pub AreLists : (test : ℕ → Obj → Bool) (count : ℕ) (objects : List Obj) (n : ℕ) (lists : List (List ℕ)) → Type 0
AreLists test count objects n lists = AreListsFrom test count objects 0 n lists

-- the test of a chunk's own rows
abbrev pub own_test : Partition → ℕ → Obj → Bool
own_test g c o = in_chunk g c o.at

-- the test of a chunk's full overlap
abbrev pub overlap_test : Partition → ℕ → Obj → Bool
overlap_test g c o = in_full_overlap g c o.at

-- Two lists for each chunk, among n rows that begin with number `from`: its rows, and those in its full overlap.
pub record AreRowLists (g : Partition) (objects : List Obj) (from n : ℕ) (rows near : List (List ℕ)) : Type 0 where
  pub own : AreListsFrom (own_test g) (chunk_count g) objects from n rows
  pub overlap : AreListsFrom (overlap_test g) (chunk_count g) objects from n near

-- The list of one chunk has others appended.
pub record Extended (chunk : ℕ) (more : List ℕ) (old new : List (List ℕ)) : Type 0 where
  pub same : length new ≡ length old
  pub here : get_or new chunk [] ≡ get_or old chunk [] ++ more
  pub others : (c : ℕ) → c ≢ chunk → get_or new c [] ≡ get_or old c []

-- The lists below a number have their counterparts appended.
pub record AreAppendedBelow (n : ℕ) (old more new : List (List ℕ)) : Type 0 where
  pub same : length new ≡ length old
  pub below : (c : ℕ) → c < n → get_or new c [] ≡ get_or old c [] ++ get_or more c []
  pub above : (c : ℕ) → n ≤ c → get_or new c [] ≡ get_or old c []

-- A list for each of a chunk's subchunks: among the given row numbers, those whose object the subchunk contains.
pub record AreParts (g : Partition) (objects : List Obj) (c : ℕ) (places : List ℕ) (lists : List (List ℕ)) : Type 0 where
  pub all : length lists ≡ sub_count g c
  pub each : (s : ℕ) → s < sub_count g c → get_or lists s [] ≡ filter (λ i. passes (λ o. in_sub g c s o.at) (slice_get objects i)) places

-- the rows with these numbers as columns
abbrev pub block_at : Catalogue → List ℕ → Stored
block_at table places = record { width = length table.names; objects = objects_at table.objects places }

-- Each of the chunks has a list, and the rows of all lists exist.
pub record AreThere (lists : List (List ℕ)) (objects : List Obj) (wanted : List ℕ) : Type 0 where
  pub chunks : All (λ chunk. chunk < length lists) wanted
  pub rows : All (λ list. All (λ place. place < length objects) list) lists

-- For each of the chunks, the columns of its first rows.
pub record AreBegunBlocks (table : Parts) (lists : List (List ℕ)) (chunks : List ℕ) (blocks : List Parts) : Type 0 where
  pub count : length blocks ≡ length chunks
  pub each : (k : ℕ) → k < length chunks → AreBegun table (get_or lists (get_or chunks k 0) []) (get_or blocks k (no_rows 0))

-- What a store has besides the plan and the rows: each list and each block is as it is defined over the table.
pub record IsStored (g : Partition) (table : Catalogue) (rows near : List (List ℕ)) (kept : List ℕ) (columns : List Stored) : Type 0 where
  pub sky : IsSky g
  pub own : AreLists (own_test g) (chunk_count g) table.objects (length table.objects) rows
  pub overlap : AreLists (overlap_test g) (chunk_count g) table.objects (length table.objects) near
  pub filled : kept ≡ filled_chunks g table.objects
  pub blocks : columns ≡ map (chunk_block g table) (filled_chunks g table.objects)
