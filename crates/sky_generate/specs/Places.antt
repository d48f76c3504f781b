-- The position of an object, and its extra values, by its draws.
use Rattle.std.specs.Prelude.{◌≡◌, ℕ, ◌*◌, ◌%◌, ℤ, pos, nat_abs, ◌-ℤ◌, ◌+ℤ◌, Some, [], ◌∷◌}
use Rattle.sky_vector.specs.Points.{Point, square}
use Rattle.sky_vector.specs.Roots.{IsRoot}
use Rattle.sky_vector.specs.declared.limits.TheConstants.{RADIUS}
use Rattle.table_rules.specs.Objects.{Obj}
use Rattle.demo_rules.specs.declared.limits.TheConstants.{FLUXES, HEIGHTS, KINDS, LEAN_MIDDLE}
use Rattle.demo_rules.specs.DemoRows.{leaning_point}
use Rattle.sky_generate.specs.declared.draws.Draws.{Draws}

-- the height that a draw gives
abbrev pub height_by : ℕ → ℤ
height_by d = pos (d % HEIGHTS) -ℤ pos RADIUS

-- how far a draw makes an object lean
abbrev pub lean_by : ℕ → ℤ
lean_by d = pos d -ℤ pos LEAN_MIDDLE

-- The position of an object with these three draws.
pub record StandsBy (z u v : ℕ) (at : Point) : Type 0 where
  pub t : ℕ
  pub h : ℕ
  pub from_axis : IsRoot (nat_abs (pos (RADIUS * RADIUS) -ℤ square (height_by z))) t
  pub long : IsRoot (nat_abs (square (lean_by u) +ℤ square (lean_by v))) h
  pub is : at ≡ leaning_point (height_by z) (lean_by u) (lean_by v) t h

-- The object with this id and these draws.
pub record IsObjectBy (number : ℕ) (d : Draws) (o : Obj) : Type 0 where
  pub id : o.id ≡ pos number
  pub at : StandsBy d.height d.lean_x d.lean_y o.at
  pub further : o.further ≡ Some (pos (d.flux % FLUXES)) ∷ Some (pos (d.kind % KINDS)) ∷ []
