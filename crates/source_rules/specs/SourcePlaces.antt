-- Which sources belong to a chunk: a source's number in the table is from 0.
-- That a child table is stored with the chunks of its objects is Qserv's idea (SC 2011).
use Rattle.std.specs.Prelude.{ℕ, Bool, false, ◌&&◌, List, length, filter, Option, None, Some, slice_get}
use Rattle.std.specs.List.{list_any, range_with_len}
use Rattle.std.specs.Ordering.{int_eq}
use Rattle.sky_rules.specs.Partition.{Partition}
use Rattle.sky_rules.specs.Bounds.{in_chunk}
use Rattle.table_rules.specs.Objects.{Obj}
use Rattle.source_rules.specs.Sources.{Source}

-- some object in the chunk has the source's objectId; if no object has it, no chunk has such an object
abbrev pub object_is_in : Partition → List Obj → ℕ → Source → Bool
object_is_in g objects c s = list_any (λ o. int_eq o.id s.object && in_chunk g c o.at) objects

-- there is a source, and it passes the test
abbrev pub source_passes : (Source → Bool) → Option Source → Bool
source_passes test None = false
source_passes test (Some s) = test s

-- among n numbers that begin with `from`, those of the sources that pass the test, ascending
abbrev pub source_places : (from n : ℕ) → (Source → Bool) → List Source → List ℕ
source_places from n test sources = filter (λ i. source_passes test (slice_get sources i)) (range_with_len from n)

-- the numbers, ascending, of the sources whose object is in the chunk
abbrev pub chunk_sources : Partition → List Obj → List Source → ℕ → List ℕ
chunk_sources g objects sources c = source_places 0 (length sources) (object_is_in g objects c) sources
