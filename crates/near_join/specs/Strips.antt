-- Row numbers in ascending order of height, with the components of the rows' positions as columns.
use Rattle.std.specs.Prelude.{◌≡◌, ℕ, ◌+◌, ◌*◌, ◌<◌, ℤ, pos, ◌+ℤ◌, unsigned_abs, Bool, ◌||◌, List, length, map, get_or, All}
use Rattle.std.specs.List.{filter}
use Rattle.std.specs.List.Sorted.{IsPermutation}
use Rattle.sky_vector.specs.Points.{IsWithin, Point}
use Rattle.sky_vector.specs.declared.limits.TheConstants.{PART_MOST}
use Rattle.table_rules.specs.Objects.{Obj}
use Rattle.table_rules.specs.declared.limits.TheConstants.{ROWS_MOST}
use Rattle.sky_row.specs.Columns.{no_row, objects_at}
use Rattle.sky_rules.specs.Bounds.{Bounds, in_chunk, near_bounds}
use Rattle.sky_rules.specs.Partition.{Partition}
use Rattle.overlap_tables.specs.Overlaps.{in_full_overlap}
use Rattle.near_join.specs.Walk.{is_near, reach_objects}
use Rattle.near_join.specs.Windows.{Ascend}

-- What contracts see of a sweep window: the numbers of its rows, and the components of their positions.
pub record StripView : Type 0 where
  pub places : List ℕ
  pub xs : List ℤ
  pub ys : List ℤ
  pub zs : List ℤ

-- Columns of one length, whose positions are within the grid.
pub record IsWhole (s : StripView) : Type 0 where
  pub wide_x : length s.xs ≡ length s.places
  pub wide_y : length s.ys ≡ length s.places
  pub wide_z : length s.zs ≡ length s.places
  pub x : All IsWithin s.xs
  pub y : All IsWithin s.ys
  pub z : All IsWithin s.zs

-- the position of the row with an index, from 0, in a sweep window
abbrev pub row_in : StripView → ℕ → Point
row_in s i = record { x = get_or s.xs i (pos 0); y = get_or s.ys i (pos 0); z = get_or s.zs i (pos 0) }

-- the row with a number
abbrev pub object_at : List Obj → ℕ → Obj
object_at objects place = get_or objects place no_row

-- the heights of the rows with these numbers
abbrev pub heights_at : List Obj → List ℕ → List ℤ
heights_at objects places = map (λ p. (object_at objects p).at.z) places

-- The columns are those of the rows with these numbers, which the table has.
pub record IsListed (objects : List Obj) (s : StripView) : Type 0 where
  pub there : All (λ p. p < length objects) s.places
  pub xs : s.xs ≡ map (λ p. (object_at objects p).at.x) s.places
  pub ys : s.ys ≡ map (λ p. (object_at objects p).at.y) s.places
  pub zs : s.zs ≡ heights_at objects s.places

-- the height at an index
abbrev pub height_in : List ℤ → ℕ → ℤ
height_in zs place = get_or zs place (pos 0)

-- the packed key of a height and a row number below `ROWS_MOST`: the height counted from 0, times `ROWS_MOST`, plus the
-- row number
abbrev pub word : ℤ → ℕ → ℕ
word z place = unsigned_abs (z +ℤ pos PART_MOST) * ROWS_MOST + place

-- the packed keys of the rows with these numbers
abbrev pub words_of : List ℤ → List ℕ → List ℕ
words_of zs places = map (λ p. word (height_in zs p) p) places

-- the row is in the chunk or in its full overlap
abbrev pub in_strip : Partition → ℕ → Obj → Bool
in_strip g c o = in_chunk g c o.at || in_full_overlap g c o.at

-- The sweep window of a chunk: its rows and those of its full overlap, in ascending order of height.
pub record IsChunkStrip (g : Partition) (objects : List Obj) (c : ℕ) (s : StripView) : Type 0 where
  pub all : IsPermutation (filter (in_strip g c) objects) (objects_at objects s.places)
  pub listed : IsListed objects s
  pub rise : Ascend s.zs

-- The sweep window of a subchunk: its rows and those of its overlap, in ascending order of height.
pub record IsSubStrip (g : Partition) (objects : List Obj) (c s : ℕ) (near : StripView) : Type 0 where
  pub all : IsPermutation (reach_objects g objects c s) (objects_at objects near.places)
  pub listed : IsListed objects near
  pub rise : Ascend near.zs

-- the row with a number is in the near region of the bounds, for a radius
abbrev pub is_near_row : List Obj → ℕ → Bounds → ℕ → Bool
is_near_row objects r bounds place = near_bounds r bounds (object_at objects place).at

-- the rows with two numbers are near enough to be a pair
abbrev pub is_close : List Obj → ℤ → ℕ → ℕ → Bool
is_close objects limit place other = is_near limit (object_at objects place) (object_at objects other)
