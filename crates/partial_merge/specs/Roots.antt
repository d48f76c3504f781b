-- The root of pieces, as it grows.
use Rattle.std.specs.Prelude.{ℕ, List, [], ◌∷◌, ◌++◌, map}
use Rattle.answer_rules.specs.declared.rewritten.ChunkQuery.{ChunkQuery}
use Rattle.answer_rules.specs.Bases.{Base}

-- numbered entries, with what is shown of each
abbrev pub shown : {S X : Type 0} → List (ℕ × S) → (S → X) → List (ℕ × X)
shown {S} {X} entries value = map {B = ℕ × X} (λ e. (e.0, value e.1)) entries

-- the base with one more chunk query
abbrev pub with_query : Base → ℕ → ChunkQuery → Base
with_query b q query = record { plan = b.plan; rows = b.rows; queries = b.queries ++ (q, query) ∷ [] }
