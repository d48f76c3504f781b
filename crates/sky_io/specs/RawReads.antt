-- What is observable of files that are read by raw calls, and the effect of these calls.
use Rattle.std.specs.Prelude.{◌≡◌, ℕ, ◌≤◌, List, [], ◌++◌, length, take}
use Rattle.std.specs.Prelude.{Option, None, option_map, Result, Ok, IfOk, IfSome, OnOk, OnErr}
use Rattle.sky_io.specs.Sinks.{Rose}
use Rattle.sky_io.specs.Shelves.{named_text}
use Rattle.sky_io.specs.declared.raw.RawFault.{RawFault}

-- The observable state of files by their names: their texts, if they are observable, and how often a call has failed.
pub record ReadState : Type 0 where
  pub texts : Option (List (List ℕ × List ℕ))
  pub faults : ℕ

-- if what was left of a file is observable, these bytes and what is left after them are that
abbrev pub Gave : Option (List ℕ) → List ℕ → Option (List ℕ) → Type 0
Gave before bytes after = before ≡ option_map (λ rest. bytes ++ rest) after

-- A call that opens a file: at Ok all of the named text is left to be read, and nothing has failed; at Err the count of
-- faults rose; the count never falls.
pub record Opened {F : Type 0} (rest_of : F → Option (List ℕ)) (old new : ReadState) (name : List ℕ) (result : Result F RawFault) : Type 0 where
  pub texts : new.texts ≡ old.texts
  pub whole : IfOk result (λ file. rest_of file ≡ option_map (named_text name) old.texts)
  pub calm : OnOk result (new.faults ≡ old.faults)
  pub cause : OnErr result (Rose old.faults new.faults)
  pub later : old.faults ≤ new.faults

-- A call that reads a file: at Ok the room has the next n bytes at its start, none only if none is left, and nothing has
-- failed; at Err the count of faults rose; the count never falls.
pub record ReadSome (old new : ReadState) (before after : Option (List ℕ)) (room : List ℕ) (result : Result ℕ RawFault) : Type 0 where
  pub texts : new.texts ≡ old.texts
  pub most : IfOk result (λ n. n ≤ length room)
  pub gave : IfOk result (λ n. Gave before (take n room) after)
  pub ended : result ≡ Ok 0 → IfSome before (λ rest. rest ≡ [])
  pub calm : OnOk result (new.faults ≡ old.faults)
  pub cause : OnErr result (Rose old.faults new.faults)
  pub later : old.faults ≤ new.faults

-- the state of files whose texts are not observable
abbrev pub unseen_files : ℕ → ReadState
unseen_files faults = record { texts = None; faults = faults }
