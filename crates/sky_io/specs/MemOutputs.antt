-- An output in memory that writes a few bytes at a call, with injected failures and a fixed capacity.
use Rattle.std.specs.Prelude.{ℕ, ◌-◌, ◌≤◌, min, List, [], ◌++◌, length, take, Some, false, IsTrue, ◌⊎◌}
use Rattle.sky_io.specs.Counts.{counted, is_listed}
use Rattle.sky_io.specs.Sinks.{SinkState}

-- The state of an output in memory: the bytes written, the most that it accepts, and the most that one call writes. It
-- also has the number of writes so far, the numbers, from 1, of those that are to fail, and how often one has failed.
pub record MemOutputState : Type 0 where
  pub written : List ℕ
  pub room : ℕ
  pub most : ℕ
  pub calls : ℕ
  pub failing : List ℕ
  pub faults : ℕ

-- the state that it shows as an output: its bytes are observable, and none are held back
abbrev pub output_of : MemOutputState → SinkState
output_of output = record { written = Some output.written; held = false; faults = output.faults }

-- an output to which nothing was written
abbrev pub new_output : ℕ → ℕ → List ℕ → MemOutputState
new_output room most failing =
    record { written = []; room = room; most = most; calls = 0; failing = failing; faults = 0 }

-- the next write is to fail: its number is listed, or there is no room
abbrev pub WriteFails : MemOutputState → Type 0
WriteFails output = IsTrue (is_listed output.calls output.failing) ⊎ (output.room ≤ length output.written)

-- how many bytes of a text the next write takes: as many as one call writes, as there is room for and as there are
abbrev pub count_of : MemOutputState → List ℕ → ℕ
count_of output text = min (min (output.room - length output.written) output.most) (length text)

-- the output after a write of a text
abbrev pub after_write : MemOutputState → List ℕ → MemOutputState
after_write output text = record output {
  written = output.written ++ take (count_of output text) text;
  calls = counted output.calls;
}

-- the output after a write that failed
abbrev pub after_write_fault : MemOutputState → MemOutputState
after_write_fault output = record output { calls = counted output.calls; faults = counted output.faults }
