-- The join conditions that are met one after another.
use Rattle.std.specs.Prelude.{Bool, true, false, List}
use Rattle.std.specs.List.{fold}
use Rattle.bind_rules.specs.Tops.{Test}
use Rattle.child_bind.specs.declared.join_condition.Joins.{Joins}
use Rattle.child_bind.specs.declared.join_condition.Joins.TheVariants.{Nowhere, Once, Again}

-- the join conditions met, with one more
abbrev pub one_more : Joins → Joins
one_more Nowhere = Once
one_more Once = Again
one_more Again = Again

-- the join conditions met, followed by these
abbrev pub joins_met : Joins → List Test → Joins
joins_met = fold (λ met t. one_more met)

-- there is exactly one
abbrev pub is_once : Joins → Bool
is_once Once = true
is_once _ = false
