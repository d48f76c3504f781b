-- A shelf in memory with injected failures.
use Rattle.std.specs.Prelude.{◌≡◌, ℕ, List, [], ◌∷◌, ◌++◌, Some, false, IsTrue, ◌⊎◌}
use Rattle.sky_io.specs.Counts.{counted, is_listed}
use Rattle.sky_io.specs.Shelves.{ShelfState, Fetched, has_name}
use Rattle.sky_io.specs.declared.shelf.Fetch.{Fetch}
use Rattle.sky_io.specs.declared.shelf.Fetch.TheVariants.{Done, Failed, Memory}

-- The state of a shelf in memory: its texts by their names, the names whose fetch has failed, and the number of fetches
-- so far. It also has the numbers, from 1, of the fetches that are to fail.
pub record MemShelfState : Type 0 where
  pub texts : List (List ℕ × List ℕ)
  pub failed : List (List ℕ)
  pub calls : ℕ
  pub failing : List ℕ

-- the state that it shows as a shelf, its texts observable
abbrev pub shelf_of : MemShelfState → ShelfState
shelf_of shelf = record { texts = Some shelf.texts; failed = shelf.failed }

-- a shelf from which nothing has been fetched
abbrev pub new_shelf : List (List ℕ × List ℕ) → List ℕ → MemShelfState
new_shelf texts failing = record { texts = texts; failed = []; calls = 0; failing = failing }

-- the next fetch is to fail: its number is listed, or no text has the name
abbrev pub Fails : MemShelfState → List ℕ → Type 0
Fails shelf name = IsTrue (is_listed shelf.calls shelf.failing) ⊎ (has_name name shelf.texts ≡ false)

-- the failed names after the given result of a fetch of a name
abbrev pub failed_after : List (List ℕ) → List ℕ → Fetch → List (List ℕ)
failed_after failed name Done = failed
failed_after failed name Failed = failed ++ name ∷ []
failed_after failed name Memory = failed

-- the shelf after the given result of a fetch of a name
abbrev pub after_fetch : MemShelfState → List ℕ → Fetch → MemShelfState
after_fetch shelf name result =
    record shelf { failed = failed_after shelf.failed name result; calls = counted shelf.calls }

-- a fetch from a shelf in memory is one from a shelf whose texts are observable
abbrev pub FetchedOf : MemShelfState → MemShelfState → List ℕ → ℕ → List ℕ → Fetch → Type 0
FetchedOf old new name limit into result = Fetched (shelf_of old) (shelf_of new) name limit into result
