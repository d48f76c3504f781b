-- Which chunks contain a row with one of some ids, as marks.
use Rattle.std.specs.Prelude.{◌≡◌, ℕ, ◌<◌, ℤ, Bool, false, ◌||◌, List, [], ◌∷◌, length, get_or}
use Rattle.table_rules.specs.Objects.{Obj}
use Rattle.sky_rules.specs.Partition.{Partition, chunk_count}
use Rattle.answer_rules.specs.Plans.{holds_id}

-- A mark for each chunk of the partition: whether it contains a row with one of the ids.
pub record AreMarks (g : Partition) (rows : List Obj) (ids : List ℤ) (marks : List Bool) : Type 0 where
  pub all : length marks ≡ chunk_count g
  pub each : (c : ℕ) → c < chunk_count g → get_or marks c false ≡ holds_id g rows c ids

-- The chunk that contains the row with the id, if there is one, is marked in addition to those that were.
pub record Marked (g : Partition) (rows : List Obj) (id : ℤ) (old new : List Bool) : Type 0 where
  pub all : length new ≡ length old
  pub each : (c : ℕ) → c < chunk_count g → get_or new c false ≡ (get_or old c false || holds_id g rows c (id ∷ []))
