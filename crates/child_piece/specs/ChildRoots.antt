-- The root of child pieces, as it grows.
use Rattle.std.specs.Prelude.{ℕ, [], ◌∷◌, ◌++◌}
use Rattle.child_rules.specs.declared.bound.ChildBound.{ChildBound}
use Rattle.child_rules.specs.ChildBases.{ChildBase}

-- the base with one more child query
abbrev pub with_child : ChildBase → ℕ → ChildBound → ChildBase
with_child b q query = record { plan = b.plan; rows = b.rows; table = b.table; queries = b.queries ++ (q, query) ∷ [] }
