-- The observable state of a sink of bytes, and the effect of a call that writes on it.
use Rattle.std.specs.Prelude.{◌≡◌, ℕ, ◌≤◌, List, ◌++◌, length, take, Bool, false}
use Rattle.std.specs.Prelude.{Option, None, option_map}
use Rattle.sky_io.specs.Counts.{counted}
use Rattle.sky_io.specs.declared.sink.Put.{Put}
use Rattle.sky_io.specs.declared.sink.Put.TheVariants.{Done, Failed}

-- The observable state of a sink: the bytes written, if they are observable; whether some may be held back; how often
-- it has failed.
pub record SinkState : Type 0 where
  pub written : Option (List ℕ)
  pub held : Bool
  pub faults : ℕ

-- a count of faults has risen, or is at its end
abbrev pub Rose : ℕ → ℕ → Type 0
Rose before now = counted before ≤ now

-- if the content is observable, it is observable afterwards too, with the piece appended
abbrev pub Appended : Option (List ℕ) → List ℕ → Option (List ℕ) → Type 0
Appended old piece new = new ≡ option_map (λ bytes. bytes ++ piece) old

-- if the content is observable, it is observable afterwards too, with some prefix of the piece appended
abbrev pub AppendedPart : Option (List ℕ) → List ℕ → Option (List ℕ) → Type 0
AppendedPart old piece new = (n : ℕ) × (n ≤ length piece) × Appended old (take n piece) new

-- The one clause of each call that writes: at Done all of the text was appended, and nothing has failed; at Failed a
-- prefix of it was appended, and the count of faults rose; the count never falls.
pub record Wrote (old new : SinkState) (text : List ℕ) (result : Put) : Type 0 where
  pub done : result ≡ Done → Appended old.written text new.written
  pub calm : result ≡ Done → new.faults ≡ old.faults
  pub part : result ≡ Failed → AppendedPart old.written text new.written
  pub cause : result ≡ Failed → Rose old.faults new.faults
  pub later : old.faults ≤ new.faults

-- A call that sends what is held back, and appends nothing.
pub record Flushed (old new : SinkState) (result : Put) : Type 0 where
  pub same : new.written ≡ old.written
  pub sent : result ≡ Done → new.held ≡ false
  pub calm : result ≡ Done → new.faults ≡ old.faults
  pub cause : result ≡ Failed → Rose old.faults new.faults
  pub later : old.faults ≤ new.faults

-- a stream to which nothing was written: its content is not observable, nothing is held back, and nothing has failed
abbrev pub unused_stream : SinkState
unused_stream = record { written = None; held = false; faults = 0 }
