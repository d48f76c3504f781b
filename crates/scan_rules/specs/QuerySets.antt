-- A set of query numbers in four 64-bit integers: query q is bit q % 64 of integer q / 64.
use Rattle.std.specs.Prelude.{◌≡◌, ℕ, ◌/◌, ◌%◌, ◌^◌, ◌<◌, ◌==◌, List, [], ◌∷◌, All, length, slice_index}
use Rattle.std.specs.Prelude.{Bool, cond, filter, sum_by}
use Rattle.std.specs.Int.{bit_at}
use Rattle.scan_rules.specs.Numbers.{query_numbers}

-- the query's bit is 1
abbrev pub is_set : List ℕ → ℕ → Bool
is_set words q = bit_at (slice_index words (q / 64)) (q % 64) == 1

-- the queries whose bits are 1, ascending
abbrev pub set_queries : List ℕ → List ℕ
set_queries words = filter (is_set words) query_numbers

-- there are four integers, of 64 bits each
pub record AreFourWords (words : List ℕ) : Type 0 where
  pub four : length words ≡ 4
  pub fit : All (λ word. word < 2 ^ 64) words

-- what the query adds to the integer at this position
abbrev pub bit_in : ℕ → ℕ → ℕ
bit_in place q = cond (q / 64 == place) (2 ^ (q % 64)) 0

-- the four integers of a set of these queries
abbrev pub words_of : List ℕ → List ℕ
words_of queries =
    sum_by (bit_in 0) queries ∷ sum_by (bit_in 1) queries ∷ sum_by (bit_in 2) queries ∷ sum_by (bit_in 3) queries ∷ []
