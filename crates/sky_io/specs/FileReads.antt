-- A shelf over files that are read by raw calls, and what its loop of reads gives.
use Rattle.std.specs.Prelude.{◌≡◌, ◌≢◌, ℕ, ◌+◌, ◌<◌, ◌≤◌, List, [], ◌++◌, length, take}
use Rattle.std.specs.Prelude.{Option, None, Some, option_map, IfSome}
use Rattle.sky_io.specs.Sinks.{Rose}
use Rattle.sky_io.specs.Shelves.{ShelfState, named_text}
use Rattle.sky_io.specs.RawReads.{ReadState, Gave}
use Rattle.sky_io.specs.declared.shelf.Fetch.{Fetch}
use Rattle.sky_io.specs.declared.shelf.Fetch.TheVariants.{Done, Failed}

-- The state of a shelf over files: their texts, if these are observable; the names whose fetch has failed; how often a raw
-- call has failed.
pub record FileShelfState : Type 0 where
  pub texts : Option (List (List ℕ × List ℕ))
  pub failed : List (List ℕ)
  pub faults : ℕ

-- the state that it shows as a shelf
abbrev pub shelf_over : FileShelfState → ShelfState
shelf_over shelf = record { texts = shelf.texts; failed = shelf.failed }

-- the named text, if the texts are observable
abbrev pub text_of : ReadState → List ℕ → Option (List ℕ)
text_of files name = option_map (named_text name) files.texts

-- Reads of a text from its start: after Done the bytes are its first limit + 1, or all of a shorter one, if it is
-- observable; after Failed a raw call has failed, and after any other result none has.
pub record ReadStart (old new : ReadState) (text : Option (List ℕ)) (limit : ℕ) (into : List ℕ) (result : Fetch) : Type 0 where
  pub texts : new.texts ≡ old.texts
  pub done : result ≡ Done → IfSome text (λ bytes. into ≡ take (limit + 1) bytes)
  pub short : result ≡ Done → length into ≤ limit + 1
  pub calm : result ≢ Failed → new.faults ≡ old.faults
  pub cause : result ≡ Failed → Rose old.faults new.faults
  pub later : old.faults ≤ new.faults

-- A read among others, which appends to the bytes read so far: at None it gave some, and more may follow.
pub record ReadNext (old new : ReadState) (before after : Option (List ℕ)) (most : ℕ) (had has : List ℕ) (result : Option Fetch) : Type 0 where
  pub texts : new.texts ≡ old.texts
  pub more : result ≡ None → (bytes : List ℕ) × (has ≡ had ++ bytes) × (0 < length bytes) × (length bytes ≤ most) × Gave before bytes after
  pub ended : result ≡ Some Done → IfSome before (λ rest. rest ≡ []) × (has ≡ had)
  pub calm : result ≢ Some Failed → new.faults ≡ old.faults
  pub cause : result ≡ Some Failed → Rose old.faults new.faults
  pub later : old.faults ≤ new.faults
