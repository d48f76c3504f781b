-- The points that a chunk and a subchunk hold, and the points near them. Overlap rows are Qserv's idea (SC 2011). Which
-- points are near, by half planes and not by angles, is a rule of this repository.
use Rattle.std.specs.Prelude.{ℕ, ◌+◌, ◌*◌, ◌/◌, ◌%◌, ℤ, pos, ◌+ℤ◌, ◌-ℤ◌, nat_abs, int_le, int_lt}
use Rattle.std.specs.Prelude.{Bool, true, ◌&&◌, ◌||◌, nat_eq, Option, None, Some, if◌then◌else◌}
use Rattle.std.specs.Ordering.{int_eq}
use Rattle.sky_vector.specs.Points.{Point, square}
use Rattle.sky_vector.specs.Plane.{is_near_line}
use Rattle.wedge_rules.specs.Heading.{Direction, heading, past}
use Rattle.sky_rules.specs.Partition.{Partition, Site, site_of, overlap_at}

-- The two side directions of a part of the sky, the second less than half a turn after the first.
pub record Sides : Type 0 where
  pub first : Direction
  pub second : Direction

-- The bounds of a part of the sky: its lowest and its highest z, its two sides if it does not go all round, and whether
-- the axis x = y = 0 belongs to it.
pub record Bounds : Type 0 where
  pub z_low : ℤ
  pub z_high : ℤ
  pub sides : Option Sides
  pub axis : Bool

-- the sides of wedge k of n; a single wedge has none
abbrev pub sides_of : ℕ → ℕ → Option Sides
sides_of n k = if nat_eq n 1 then None else Some (record { first = heading n k; second = heading n (k + 1) })

-- the bounds of wedge k of n, from z_low up to but without `end`; the axis belongs to wedge 0
abbrev pub wedge_bounds : ℕ → ℕ → ℤ → ℤ → Bounds
wedge_bounds n k z_low end = record { z_low = z_low; z_high = end -ℤ pos 1; sides = sides_of n k; axis = nat_eq k 0 }

-- the bounds of the chunk at a site
abbrev pub chunk_bounds : Site → Bounds
chunk_bounds site = wedge_bounds site.stripe.chunks site.wedge site.stripe.z_low site.end

-- the height of a site's stripe
abbrev pub height_of : Site → ℕ
height_of site = nat_abs (site.end -ℤ site.stripe.z_low)

-- the lowest z of substripe t of a site: the stripe's height is cut into its rows, rounded down
abbrev pub row_start : Site → ℕ → ℤ
row_start site t = site.stripe.z_low +ℤ pos (t * height_of site / site.stripe.rows)

-- the bounds of substripe t and column j at a site: with M columns, column j of wedge w is fine wedge w * M + j
abbrev pub fine_bounds : Site → ℕ → ℕ → Bounds
fine_bounds site t j =
    wedge_bounds (site.stripe.chunks * site.stripe.columns) (site.wedge * site.stripe.columns + j)
    (row_start site t) (row_start site (t + 1))

-- the bounds of subchunk s at a site: with M columns, s is t * M + j
abbrev pub sub_bounds : Site → ℕ → Bounds
sub_bounds site s = fine_bounds site (s / site.stripe.columns) (s % site.stripe.columns)

-- the bounds of chunk c
abbrev pub bounds_of : Partition → ℕ → Bounds
bounds_of g c = chunk_bounds (site_of g c)

-- the bounds of subchunk s of chunk c
abbrev pub sub_bounds_of : Partition → ℕ → ℕ → Bounds
sub_bounds_of g c s = sub_bounds (site_of g c) s

-- the point is on the axis
abbrev pub is_on_axis : Point → Bool
is_on_axis p = int_eq p.x (pos 0) && int_eq p.y (pos 0)

-- the point is at or past the first side and short of the second; for a point on the axis the given Boolean decides;
-- without sides every point is in
abbrev pub in_sides : Option Sides → Bool → Point → Bool
in_sides None axis p = true
in_sides (Some sides) axis p =
    if is_on_axis p then axis
    else int_le (pos 0) (past sides.first p.x p.y) && int_lt (past sides.second p.x p.y) (pos 0)

-- the point is within the bounds
abbrev pub in_bounds : Bounds → Point → Bool
in_bounds bounds p = int_le bounds.z_low p.z && int_le p.z bounds.z_high && in_sides bounds.sides bounds.axis p

-- the point is no farther than r from the line of a side, compared as squares
abbrev pub near_side : ℕ → Direction → Point → Bool
near_side r d p = is_near_line d.dx d.dy p.x p.y (square (pos r))

-- the point is at or past the first side or near it, and short of the second or near it
abbrev pub near_sides : ℕ → Option Sides → Point → Bool
near_sides r None p = true
near_sides r (Some sides) p =
    (int_le (pos 0) (past sides.first p.x p.y) || near_side r sides.first p)
    && (int_lt (past sides.second p.x p.y) (pos 0) || near_side r sides.second p)

-- the point is in the near region for the radius r: the points within the bounds and those near them
abbrev pub near_bounds : ℕ → Bounds → Point → Bool
near_bounds r bounds p =
    int_le (bounds.z_low -ℤ pos r) p.z && int_le p.z (bounds.z_high +ℤ pos r) && near_sides r bounds.sides p

-- the chunk holds the point
abbrev pub in_chunk : Partition → ℕ → Point → Bool
in_chunk g c p = in_bounds (bounds_of g c) p

-- subchunk s of chunk c holds the point
abbrev pub in_sub : Partition → ℕ → ℕ → Point → Bool
in_sub g c s p = in_bounds (sub_bounds_of g c s) p

-- the point is in the near region of the chunk, for the overlap of the chunk's stripe
abbrev pub near_chunk : Partition → ℕ → Point → Bool
near_chunk g c p = near_bounds (overlap_at g c) (bounds_of g c) p

-- the point is in the near region of subchunk s of chunk c, for the overlap of the chunk's stripe
abbrev pub near_sub : Partition → ℕ → ℕ → Point → Bool
near_sub g c s p = near_bounds (overlap_at g c) (sub_bounds_of g c s) p
