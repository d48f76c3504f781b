-- Rows that are near enough to another one, and the pairs that they are in.
use Rattle.std.specs.Prelude.{◌≡◌, ◌<◌, ℤ, Bool, List, ◌++◌, length}
use Rattle.std.specs.List.{flat_map}
use Rattle.table_rules.specs.Objects.{Obj}
use Rattle.sky_rules.specs.Bounds.{Bounds, in_bounds}
use Rattle.value_rules.specs.Values.{Pick}
use Rattle.answer_rules.specs.declared.rewritten.ChunkQuery.{ChunkQuery}
use Rattle.near_join.specs.declared.neighbour.Neighbour.{Neighbour}
use Rattle.near_join.specs.Gains.{ordered_pair}
use Rattle.near_join.specs.Strips.{object_at}

-- the row of a neighbour
abbrev pub row_of : List Obj → Neighbour → Obj
row_of objects n = object_at objects n.place

-- The table has a row with the number, and its id is that of the neighbour.
pub record IsRowOf (objects : List Obj) (n : Neighbour) : Type 0 where
  pub there : n.place < length objects
  pub id : n.id ≡ (row_of objects n).id

-- A neighbour, with the flag whether its row is within the bounds.
pub record IsFlagged (objects : List Obj) (bounds : Bounds) (n : Neighbour) : Type 0 where
  pub row : IsRowOf objects n
  pub held : n.held ≡ in_bounds bounds (row_of objects n).at

-- the pairs of a row with a neighbour, in both orders
abbrev pub neighbour_pairs : ChunkQuery → ℤ → List Obj → Bool → Obj → Neighbour → List Pick
neighbour_pairs cq limit objects held u n = ordered_pair cq limit held u (row_of objects n) ++ ordered_pair cq limit n.held (row_of objects n) u

-- the pair of a neighbour with itself, and its pairs with others in both orders
abbrev pub pairs_with_neighbours : ChunkQuery → ℤ → List Obj → Neighbour → List Neighbour → List Pick
pairs_with_neighbours cq limit objects n others =
    ordered_pair cq limit n.held (row_of objects n) (row_of objects n)
    ++ flat_map (neighbour_pairs cq limit objects n.held (row_of objects n)) others
