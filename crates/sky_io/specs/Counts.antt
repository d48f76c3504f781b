-- Counts that saturate at the end of their 64 bits, and calls that fail by their number.
use Rattle.std.specs.Prelude.{ℕ, ◌+◌, ◌-◌, ◌^◌, ◌==◌, min, List, Bool}
use Rattle.std.specs.List.{list_any}

-- one more, or the same number at the end of 64 bits
abbrev pub counted : ℕ → ℕ
counted n = min (n + 1) (2 ^ 64 - 1)

-- after the given number of calls, the number of the next one, from 1, is listed
abbrev pub is_listed : ℕ → List ℕ → Bool
is_listed calls failing = list_any (λ number. number == counted calls) failing
