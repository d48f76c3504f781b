-- Files in memory that give a few bytes at a read, with injected failures.
use Rattle.std.specs.Prelude.{◌≡◌, ℕ, List, Some, min, length, false, IsTrue, ◌⊎◌}
use Rattle.sky_io.specs.Counts.{is_listed}
use Rattle.sky_io.specs.Shelves.{has_name}
use Rattle.sky_io.specs.RawReads.{ReadState}

-- The state of files in memory: their texts by their names, and the most bytes that one call reads. It also has the number
-- of calls so far, the numbers, from 1, of those that are to fail, and how often one has failed.
pub record MemFilesState : Type 0 where
  pub texts : List (List ℕ × List ℕ)
  pub most : ℕ
  pub calls : ℕ
  pub failing : List ℕ
  pub faults : ℕ

-- the state that they show, their texts observable
abbrev pub files_of : MemFilesState → ReadState
files_of files = record { texts = Some files.texts; faults = files.faults }

-- files of which none was opened
abbrev pub new_files : List (List ℕ × List ℕ) → ℕ → List ℕ → MemFilesState
new_files texts most failing = record { texts = texts; most = most; calls = 0; failing = failing; faults = 0 }

-- the next call is listed as one that fails
abbrev pub IsListedCall : MemFilesState → Type 0
IsListedCall files = IsTrue (is_listed files.calls files.failing)

-- an open of a name is to fail: its number is listed, or no text has the name
abbrev pub OpenFails : MemFilesState → List ℕ → Type 0
OpenFails files name = IsListedCall files ⊎ (has_name name files.texts ≡ false)

-- how many bytes the next read gives: as many as one call reads, as there is room for and as are left
abbrev pub given_of : MemFilesState → List ℕ → List ℕ → ℕ
given_of files room rest = min (min files.most (length room)) (length rest)
