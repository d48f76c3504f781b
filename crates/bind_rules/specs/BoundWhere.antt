-- The WHERE of a query that binds: a condition for each conjunct but the chord test, and for that the limit of the
-- join.
use Rattle.std.specs.Prelude.{◌≡◌, ℕ, int_le, Bool, true, false, ◌&&◌, not, List, map, Some, Ok}
use Rattle.std.specs.List.{filter, list_any}
use Rattle.std.specs.Option.{option_map}
use Rattle.sky_vector.specs.Points.{chord_squared}
use Rattle.sql_bound.specs.declared.query.Bound.{Bound}
use Rattle.sql_bound.specs.declared.query.Shape.{Shape}
use Rattle.sql_bound.specs.declared.query.Shape.TheVariants as shape
use Rattle.sql_tree.specs.declared.cond.Neg.{Neg}
use Rattle.sql_tree.specs.declared.query.Query.{Query}
use Rattle.value_rules.specs.Truth.{is_true, meets}
use Rattle.value_rules.specs.Values.{Pick}
use Rattle.bind_rules.specs.Binding.{bound_of}
use Rattle.bind_rules.specs.Bounds.{object_columns}
use Rattle.bind_rules.specs.Conjuncts.{where_conjuncts}
use Rattle.bind_rules.specs.Tops.{Test, Chord, test_of}
use Rattle.bind_rules.specs.Truths.{where_holds}
use Rattle.bind_rules.specs.Wholes.{bound_cond}

-- the squared chord of a pair is at most the limit of the join; a single row is no pair, and other shapes have no limit
abbrev pub within_limit : Shape → Pick → Bool
within_limit (shape.Pairs limit) p =
    is_true (option_map (λ o. int_le (chord_squared p.first.at o.at) limit) p.second)
within_limit shape.Rows p = true
within_limit (shape.Groups keys) p = true

-- the written WHERE is true of a row or a pair exactly if all conditions of the bound query hold and, in a join, the
-- chord is within its limit
abbrev pub WhereHoldsAsBound : Type 0
WhereHoldsAsBound =
    (names : List (List ℕ)) (q : Query) (b : Bound) (p : Pick) → bound_of names q ≡ Ok b
    → where_holds (object_columns names q) p q.cond ≡ (meets b.conds p && within_limit b.shape p)

-- the test is of a chord
abbrev pub is_chord : Test → Bool
is_chord (Chord left right strict n) = true
is_chord t = false

-- the conjunct is no chord test
abbrev pub is_plain : Neg → Bool
is_plain n = not (list_any is_chord (test_of n))

-- the conjuncts of WHERE but the chord test have one bound condition each, and those are the conditions, in order
abbrev pub ConjunctsAreBound : Type 0
ConjunctsAreBound =
    (names : List (List ℕ)) (q : Query) (b : Bound) → bound_of names q ≡ Ok b
    → map Some b.conds
    ≡ map (bound_cond (object_columns names q)) (filter is_plain (where_conjuncts q.cond))
