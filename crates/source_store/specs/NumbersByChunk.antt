-- The lists of source numbers in a store of sources, one for each chunk.
use Rattle.std.specs.Prelude.{◌≡◌, ℕ, ◌<◌, ◌==◌, ◌&&◌, Bool, false, List, [], length, get_or, Option, None, Some, IfSome, ℤ}
use Rattle.std.specs.List.{list_any}
use Rattle.std.specs.Ordering.{int_eq}
use Rattle.sky_rules.specs.Bounds.{in_chunk}
use Rattle.sky_rules.specs.Partition.{Partition, chunk_count}
use Rattle.table_rules.specs.Objects.{Obj}
use Rattle.source_rules.specs.Sources.{Source}
use Rattle.source_rules.specs.SourcePlaces.{object_is_in, source_places}

-- there is a chunk, and it is this one
abbrev pub is_chunk : ℕ → Option ℕ → Bool
is_chunk c None = false
is_chunk c (Some chunk) = chunk == c

-- An object's id leads to this chunk, or to none: the object with the id is in it and in no other.
pub record LeadsTo (g : Partition) (objects : List Obj) (id : ℤ) (chunk : Option ℕ) : Type 0 where
  pub there : IfSome chunk (λ c. c < chunk_count g)
  pub each : (c : ℕ) → c < chunk_count g → list_any (λ o. int_eq o.id id && in_chunk g c o.at) objects ≡ is_chunk c chunk

-- A list for each chunk: of the first n sources the numbers of those whose object is in it.
pub record AreNumbersByChunk (g : Partition) (objects : List Obj) (sources : List Source) (n : ℕ) (lists : List (List ℕ)) : Type 0 where
  pub all : length lists ≡ chunk_count g
  pub each : (c : ℕ) → c < chunk_count g → get_or lists c [] ≡ source_places 0 n (object_is_in g objects c) sources
