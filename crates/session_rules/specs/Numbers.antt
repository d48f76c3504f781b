-- Lists with an entry for each query of a script, in the queries' order; some entries are not present.
use Rattle.std.specs.Prelude.{ℕ, ◌+◌, ◌==◌, List, [], ◌∷◌, Option, None, Some, option_map, find}

-- the entries that are present, each with the number of its query; the first query has number k
abbrev pub numbered_from : {X : Type 0} → ℕ → List (Option X) → List (ℕ × X)
numbered_from k [] = []
numbered_from k (Some x ∷ xs) = (k, x) ∷ numbered_from (k + 1) xs
numbered_from k (None ∷ xs) = numbered_from (k + 1) xs

-- the entry with this number, if there is one
abbrev pub numbered_at : {X : Type 0} → List (ℕ × X) → ℕ → Option X
numbered_at entries q = option_map (λ e. e.1) (find (λ e. e.0 == q) entries)
