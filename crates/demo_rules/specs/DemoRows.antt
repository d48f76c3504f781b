-- The objects of the demo: scattered over the sphere, with a flux and a kind.
use Rattle.std.specs.Prelude.{◌≡◌, ℕ, ◌+◌, ◌*◌, ◌/◌, ◌%◌, nat_eq, ℤ, pos, negsuc, neg_ℤ, nat_abs}
use Rattle.std.specs.Prelude.{◌-ℤ◌, ◌+ℤ◌, ◌*ℤ◌, Bool, ◌&&◌, List, [], ◌∷◌, length, codes, Option, Some}
use Rattle.std.specs.Prelude.{if◌then◌else◌, slice_get}
use Rattle.sky_vector.specs.Points.{Point, square, is_admissible, is_coordinate}
use Rattle.sky_vector.specs.declared.limits.TheConstants.{RADIUS}
use Rattle.table_rules.specs.Objects.{Obj, Catalogue}
use Rattle.sky_vector.specs.Roots.{IsRoot}
use Rattle.demo_rules.specs.declared.limits.TheConstants.{FLUXES, HEIGHTS, KINDS, LEAN_MIDDLE}
use Rattle.demo_rules.specs.Draws.{draw_of}

-- a number divided by a natural one, rounded towards zero
abbrev pub cut_quotient : ℤ → ℕ → ℤ
cut_quotient (pos n) h = pos (n / h)
cut_quotient (negsuc n) h = neg_ℤ (pos ((n + 1) / h))

-- the height of object i: its first draw, reduced to the heights of the sphere
abbrev pub height : ℕ → ℕ → ℤ
height seed i = pos (draw_of seed i 1 % HEIGHTS) -ℤ pos RADIUS

-- the x component of object i's direction: its second draw minus the middle
abbrev pub lean_x : ℕ → ℕ → ℤ
lean_x seed i = pos (draw_of seed i 2) -ℤ pos LEAN_MIDDLE

-- the y component of object i's direction: its third draw minus the middle
abbrev pub lean_y : ℕ → ℕ → ℤ
lean_y seed i = pos (draw_of seed i 3) -ℤ pos LEAN_MIDDLE

-- the point of the equator on the first meridian, the default position of objects
abbrev pub on_meridian : Point
on_meridian = record { x = pos RADIUS; y = pos 0; z = pos 0 }

-- the point, if it is a position of the sky, and else the default position
abbrev pub kept_point : Point → Point
kept_point p =
    if is_coordinate p.x && is_coordinate p.y && is_coordinate p.z && is_admissible p then p else on_meridian

-- the point at a height in the direction (u, v): t from the axis, if (u, v) has the length h
abbrev pub leaning_point : (z u v : ℤ) → (t h : ℕ) → Point
leaning_point z u v t h =
    if nat_eq h 0 then on_meridian
    else kept_point (record { x = cut_quotient (u *ℤ pos t) h; y = cut_quotient (v *ℤ pos t) h; z = z })

-- The position of object i: at its height on the sphere, in its direction.
pub record StandsAt (seed i : ℕ) (at : Point) : Type 0 where
  pub t : ℕ
  pub h : ℕ
  pub from_axis : IsRoot (nat_abs (pos (RADIUS * RADIUS) -ℤ square (height seed i))) t
  pub long : IsRoot (nat_abs (square (lean_x seed i) +ℤ square (lean_y seed i))) h
  pub is : at ≡ leaning_point (height seed i) (lean_x seed i) (lean_y seed i) t h

-- the extra values of object i: its flux and its kind
abbrev pub further_values : ℕ → ℕ → List (Option ℤ)
further_values seed i = Some (pos (draw_of seed i 4 % FLUXES)) ∷ Some (pos (draw_of seed i 5 % KINDS)) ∷ []

-- Object i of the demo.
pub record IsDemoObject (seed i : ℕ) (o : Obj) : Type 0 where
  pub id : o.id ≡ pos i
  pub at : StandsAt seed i o.at
  pub further : o.further ≡ further_values seed i

-- The demo's catalogue of the given number of objects: object i is at index i - 1.
pub record IsDemoCatalogue (count seed : ℕ) (c : Catalogue) : Type 0 where
  pub names : c.names ≡ codes "flux" ∷ codes "kind" ∷ []
  pub all : length c.objects ≡ count
  pub each : (i : ℕ) → (o : Obj) → slice_get c.objects i ≡ Some o → IsDemoObject seed (i + 1) o
