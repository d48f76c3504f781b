-- A source in memory with injected failures.
use Rattle.std.specs.Prelude.{ℕ, List, Some, IsTrue}
use Rattle.sky_io.specs.Counts.{counted, is_listed}
use Rattle.byte_source.specs.Sources.{SourceState}

-- The state of a source in memory: the bytes that are left, the number of reads so far, the numbers, from 1, of those that
-- are to fail, and how often it has failed.
pub record MemSourceState : Type 0 where
  pub left : List ℕ
  pub calls : ℕ
  pub failing : List ℕ
  pub faults : ℕ

-- the state that it shows as a source, its bytes observable
abbrev pub source_of : MemSourceState → SourceState
source_of source = record { left = Some source.left; faults = source.faults }

-- a source of which nothing was read
abbrev pub new_source : (bytes failing : List ℕ) → MemSourceState
new_source bytes failing = record { left = bytes; calls = 0; failing = failing; faults = 0 }

-- the next read is to fail
abbrev pub IsListed : MemSourceState → Type 0
IsListed source = IsTrue (is_listed source.calls source.failing)

-- the source after a read that failed
abbrev pub after_fault : MemSourceState → MemSourceState
after_fault source = record source { calls = counted source.calls; faults = counted source.faults }
