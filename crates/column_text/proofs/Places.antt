-- The names of columns by their places.
use Rattle.std.proofs.Common.{codes, ◌≡◌, ℕ, suc, ◌+◌, ◌-◌, ◌<◌, ◌≤◌, [], ◌∷◌, ◌++◌, ap, arith}
use Rattle.sql_rules.specs.PrintedExprs.{Bytes, behind_each}
use Rattle.transcript_rules.specs.ColumnNames.{clause, column_name, place_names}

-- the names of one column or more
place_step : (from to : ℕ) → from < to → place_names from (to - from) ≡ column_name from ∷ place_names (from + 1) (to - (from + 1))
place_step from to low =
    let more : to - from ≡ suc (to - (from + 1)) = omega (arith, low) in
    ap (place_names from) more

-- the names from a place on
pub next_place : (from to : ℕ) → from < to
    → behind_each (codes ",") (place_names from (to - from))
    ≡ (codes "," ++ column_name from) ++ behind_each (codes ",") (place_names (from + 1) (to - (from + 1)))
next_place from to low = ap (behind_each (codes ",")) (place_step from to low)

-- words before the names of one column or more
pub some_places : (words : Bytes) (from to : ℕ) → from < to
    → clause words (place_names from (to - from))
    ≡ words ++ (column_name from ++ behind_each (codes ",") (place_names (from + 1) (to - (from + 1))))
some_places words from to low = ap (clause words) (place_step from to low)

-- no words stand before no names
pub no_places : (words : Bytes) (from to : ℕ) → from ≡ to → clause words (place_names from (to - from)) ≡ []
no_places words from to same =
    let none : to - from ≡ 0 = omega (arith, same) in
    ap (λ n. clause words (place_names from n)) none

-- behind the last place there is none
pub places_end : (from to : ℕ) → to ≤ from → behind_each (codes ",") (place_names from (to - from)) ≡ []
places_end from to past =
    let none : to - from ≡ 0 = omega (arith, past) in
    ap (λ n. behind_each (codes ",") (place_names from n)) none
