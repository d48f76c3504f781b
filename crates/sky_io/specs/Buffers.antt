-- A sink with a buffer over an output of raw calls.
use Rattle.std.specs.Prelude.{◌≡◌, ℕ, ◌≤◌, List, [], ◌++◌, length, drop, option_map, true, if◌then◌else◌, nat_lt}
use Rattle.sky_io.specs.Sinks.{SinkState, Rose}
use Rattle.sky_io.specs.declared.sink.Put.{Put}
use Rattle.sky_io.specs.declared.sink.Put.TheVariants.{Done, Failed}

-- The state of a sink with a buffer: that of its output, the bytes in the buffer, and how many of them are sent already.
pub record BufferState : Type 0 where
  pub out : SinkState
  pub bytes : List ℕ
  pub sent : ℕ

-- the bytes that are to be sent
abbrev pub unsent : BufferState → List ℕ
unsent buffer = drop buffer.sent buffer.bytes

-- the state that it shows as a sink: bytes that are to be sent count as written, and are held back
abbrev pub sink_over : BufferState → SinkState
sink_over buffer = record {
  written = option_map (λ bytes. bytes ++ unsent buffer) buffer.out.written;
  held = if nat_lt 0 (length (unsent buffer)) then true else buffer.out.held;
  faults = buffer.out.faults;
}

-- an output with an empty buffer before it
abbrev pub empty_before : SinkState → BufferState
empty_before out = record { out = out; bytes = []; sent = 0 }

-- A call that sends what is to be sent: at Done all of it, and at Failed its first bytes; what shows as written stays.
pub record Emptied (old new : BufferState) (result : Put) : Type 0 where
  pub same : (sink_over new).written ≡ (sink_over old).written
  pub done : result ≡ Done → new ≡ empty_before new.out
  pub calm : result ≡ Done → new.out.faults ≡ old.out.faults
  pub cause : result ≡ Failed → Rose old.out.faults new.out.faults
  pub later : old.out.faults ≤ new.out.faults
