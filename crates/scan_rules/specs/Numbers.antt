-- Lists of numbers, as tests.
use Rattle.std.specs.Prelude.{ℕ, ◌+◌, ◌==◌, List, [], ◌∷◌, ◌++◌, Bool, true, not, ◌&&◌, zero, suc}
use Rattle.std.specs.List.{list_any}
use Rattle.scan_rules.specs.declared.limits.TheConstants.{QUERY_MOST}

-- the list contains this number
abbrev pub has : List ℕ → ℕ → Bool
has numbers number = list_any (λ other. other == number) numbers

-- the numbers 0, 1, .. below a bound
unfoldable pub below : ℕ → List ℕ
below zero = []
below (suc bound) = below bound ++ bound ∷ []

-- the numbers from 0 to 255, among which queries are searched: a query has one from 1 to 255
abbrev pub query_numbers : List ℕ
query_numbers = below (QUERY_MOST + 1)

-- no number occurs twice
abbrev pub are_distinct : List ℕ → Bool
are_distinct [] = true
are_distinct (number ∷ numbers) = not (has numbers number) && are_distinct numbers
