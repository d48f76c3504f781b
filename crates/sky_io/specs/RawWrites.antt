-- The effect of a raw call that writes, and of a loop of such calls.
use Rattle.std.specs.Prelude.{◌≡◌, ℕ, ◌<◌, ◌≤◌, List, length, take, None, false, Result, IfOk, OnOk, OnErr}
use Rattle.sky_io.specs.Sinks.{SinkState, Appended, Rose}
use Rattle.sky_io.specs.declared.raw.RawFault.{RawFault}

-- A raw call that writes: at Ok the first bytes of a text were appended, at least one, and nothing has failed; at Err
-- none was appended, and the count of faults rose; the count never falls.
pub record WroteSome (old new : SinkState) (text : List ℕ) (result : Result ℕ RawFault) : Type 0 where
  pub some : IfOk result (λ n. (0 < n) × (n ≤ length text))
  pub done : IfOk result (λ n. Appended old.written (take n text) new.written)
  pub calm : OnOk result (new.faults ≡ old.faults)
  pub none : OnErr result (new.written ≡ old.written)
  pub cause : OnErr result (Rose old.faults new.faults)
  pub later : old.faults ≤ new.faults

-- Raw calls one after another: the first n bytes of a text were appended, fewer than all only if the count of faults
-- rose.
pub record WroteFirst (old new : SinkState) (text : List ℕ) (n : ℕ) : Type 0 where
  pub most : n ≤ length text
  pub done : Appended old.written (take n text) new.written
  pub calm : n ≡ length text → new.faults ≡ old.faults
  pub cause : n < length text → Rose old.faults new.faults
  pub later : old.faults ≤ new.faults

-- the state of a stream whose content is not observable, and which holds nothing back
abbrev pub unseen_stream : ℕ → SinkState
unseen_stream faults = record { written = None; held = false; faults = faults }
