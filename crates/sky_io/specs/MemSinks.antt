-- A sink in memory with injected failures and a fixed capacity.
use Rattle.std.specs.Prelude.{ℕ, ◌+◌, ◌-◌, ◌<◌, min, List, [], ◌++◌, length, take, Some, Bool, true, false, if◌then◌else◌, nat_lt, IsTrue}
use Rattle.sky_io.specs.Counts.{counted, is_listed}
use Rattle.sky_io.specs.Sinks.{SinkState}

-- The state of a sink in memory: the bytes written, the most that it accepts, and how many bytes of its piece a put that
-- fails keeps at most. It also has the number of calls so far, the numbers, from 1, of those that are to fail, how often
-- it has failed, and whether bytes were written since it was last flushed.
pub record MemSinkState : Type 0 where
  pub written : List ℕ
  pub room : ℕ
  pub keep : ℕ
  pub calls : ℕ
  pub failing : List ℕ
  pub faults : ℕ
  pub dirty : Bool

-- the state that it shows as a sink: its bytes are observable, and held back until it is flushed
abbrev pub sink_of : MemSinkState → SinkState
sink_of sink = record { written = Some sink.written; held = sink.dirty; faults = sink.faults }

-- a sink on which no call was made, and of which a put that fails keeps the given number of bytes
abbrev pub cutting_sink : ℕ → List ℕ → ℕ → MemSinkState
cutting_sink room failing keep =
    record { written = []; room = room; keep = keep; calls = 0; failing = failing; faults = 0; dirty = false }

-- a sink on which no call was made, and of which a put that fails keeps nothing
abbrev pub new_sink : ℕ → List ℕ → MemSinkState
new_sink room failing = cutting_sink room failing 0

-- the next call is listed as one that fails
abbrev pub IsListed : MemSinkState → Type 0
IsListed sink = IsTrue (is_listed sink.calls sink.failing)

-- a piece is longer than the room left
abbrev pub IsTooLong : MemSinkState → List ℕ → Type 0
IsTooLong sink piece = sink.room < length sink.written + length piece

-- bytes are held back after a piece was written, possibly only from before
abbrev pub is_dirty_after : MemSinkState → List ℕ → Bool
is_dirty_after sink piece = if nat_lt 0 (length piece) then true else sink.dirty

-- the sink with bytes appended
abbrev pub appended : MemSinkState → List ℕ → MemSinkState
appended sink bytes = record sink { written = sink.written ++ bytes; dirty = is_dirty_after sink bytes }

-- the sink after a piece was written
abbrev pub after_put : MemSinkState → List ℕ → MemSinkState
after_put sink piece = record (appended sink piece) { calls = counted sink.calls }

-- what a put that fails keeps of its piece: as many of its first bytes as there are and the room holds
abbrev pub kept_of : MemSinkState → List ℕ → List ℕ
kept_of sink piece = take (min sink.keep (sink.room - length sink.written)) piece

-- the sink with what is kept of a piece appended, and a fault counted
abbrev pub after_cut : MemSinkState → List ℕ → MemSinkState
after_cut sink piece = record (appended sink (kept_of sink piece)) { faults = counted sink.faults }

-- the sink after a put of a piece that failed
abbrev pub after_failed_put : MemSinkState → List ℕ → MemSinkState
after_failed_put sink piece = record (after_cut sink piece) { calls = counted sink.calls }

-- the sink after it was flushed
abbrev pub after_flush : MemSinkState → MemSinkState
after_flush sink = record sink { calls = counted sink.calls; dirty = false }

-- the sink after a flush that failed
abbrev pub after_fault : MemSinkState → MemSinkState
after_fault sink = record sink { calls = counted sink.calls; faults = counted sink.faults }
