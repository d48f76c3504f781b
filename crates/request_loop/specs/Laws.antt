-- A fact about the requests of every input.
use Rattle.std.specs.Prelude.{◌≡◌, ℕ, List, ◌++◌}
use Rattle.request_loop.specs.Requests.{cut_of}

-- whatever follows an input, its requests stay the first
abbrev pub RequestsStay : Type 0
RequestsStay =
    (input later : List ℕ) → (more : List (List ℕ)) × ((cut_of (input ++ later)).requests ≡ (cut_of input).requests ++ more)
