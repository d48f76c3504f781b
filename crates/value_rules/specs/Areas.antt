-- The points of the sky that an area test includes.
use Rattle.std.specs.Prelude.{ℤ, pos, int_le, Bool, ◌&&◌, not}
use Rattle.std.specs.Ordering.{int_eq}
use Rattle.sky_vector.specs.Points.{Point, chord_squared}
use Rattle.sky_vector.specs.Plane.{plane_product}
use Rattle.sky_vector.specs.Pos.{point}
use Rattle.sky_vector.specs.declared.direction.Dir.{Dir}
use Rattle.sql_bound.specs.declared.area.AreaTest.{AreaTest}
use Rattle.sql_bound.specs.declared.area.AreaTest.TheVariants.{Band, Cap, Boxed}

-- the height is from lo to hi
abbrev pub in_band : ℤ → ℤ → ℤ → Bool
in_band lo hi z = int_le lo z && int_le z hi

-- the plane product of a direction and the point: how far the point is past the direction
abbrev pub past_dir : Dir → Point → ℤ
past_dir d p = plane_product d.dx d.dy p.x p.y

-- the point is not on the axis x = y = 0, at or past the direction a, and not past the direction b
abbrev pub between_dirs : Dir → Dir → Point → Bool
between_dirs a b p =
    not (int_eq p.x (pos 0) && int_eq p.y (pos 0)) && int_le (pos 0) (past_dir a p) && int_le (past_dir b p) (pos 0)

-- the test is true of the point
abbrev pub area_holds : AreaTest → Point → Bool
area_holds (Band lo hi) p = in_band lo hi p.z
area_holds (Cap centre n) p = int_le (chord_squared p (point centre)) n
area_holds (Boxed lo hi a b) p = in_band lo hi p.z && between_dirs a b p
