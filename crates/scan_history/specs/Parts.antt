-- The values of the parts of a line: numbers, queries, and ascending lists of them.
use Rattle.std.specs.Prelude.{ℕ, List, [], ◌∷◌, map, Bool, true, ◌&&◌, Option, None, Some, option_map, cond}
use Rattle.std.specs.Prelude.{nat_lt, nat_le}
use Rattle.text_rules.specs.Numbers.{natural}
use Rattle.scan_rules.specs.declared.limits.TheConstants.{QUERY_MOST}
use Rattle.scan_history.specs.declared.limits.TheConstants.{NUMBER_BOUND, NUMBER_DIGITS_MOST}

-- the value, if there is one and it passes the test
abbrev pub only_if : {A : Type 0} → (A → Bool) → Option A → Option A
only_if test None = None
only_if test (Some a) = cond (test a) (Some a) None

-- a number has 1 to 10 digits and is below 2^32
abbrev pub number_of : List ℕ → Option ℕ
number_of part = only_if (λ n. nat_lt n NUMBER_BOUND) (natural NUMBER_DIGITS_MOST part)

-- a query has a number from 1 to 255
abbrev pub is_query : ℕ → Bool
is_query q = nat_le 1 q && nat_le q QUERY_MOST

-- the number of a query
abbrev pub query_of : List ℕ → Option ℕ
query_of part = only_if is_query (number_of part)

-- all the values, if none is missing
abbrev pub all_there : {A : Type 0} → List (Option A) → Option (List A)
all_there [] = Some []
all_there (None ∷ rest) = None
all_there (Some a ∷ rest) = option_map (λ more. a ∷ more) (all_there rest)

-- the number is above the last one, if there is one
abbrev pub is_above : Option ℕ → ℕ → Bool
is_above None n = true
is_above (Some last) n = nat_lt last n

-- the numbers ascend strictly, and the first is above a last one before them
abbrev pub ascend_from : Option ℕ → List ℕ → Bool
ascend_from last [] = true
ascend_from last (n ∷ ns) = is_above last n && ascend_from (Some n) ns

-- the values of the parts, if each has one and they ascend strictly
abbrev pub ascending : (List ℕ → Option ℕ) → List (List ℕ) → Option (List ℕ)
ascending meaning parts = only_if (ascend_from None) (all_there (map meaning parts))

-- a list of chunks
abbrev pub chunks_in : List (List ℕ) → Option (List ℕ)
chunks_in parts = ascending number_of parts

-- a list of queries, at least one
abbrev pub queries_in : List (List ℕ) → Option (List ℕ)
queries_in [] = None
queries_in (part ∷ parts) = ascending query_of (part ∷ parts)
