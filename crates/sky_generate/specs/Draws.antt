-- The draws of an object, each made from the one before it.
use Rattle.std.specs.Prelude.{◌≡◌, ℕ, ◌*◌, ◌%◌, ◌<◌}
use Rattle.demo_rules.specs.declared.limits.TheConstants.{MODULUS, MULTIPLIER}
use Rattle.sky_generate.specs.declared.draws.Draws.{Draws}

-- the draw after another one
abbrev pub next_draw : ℕ → ℕ
next_draw before = before * MULTIPLIER % MODULUS

-- Five draws, the first after this one, and each below the modulus.
pub record AreDrawnFrom (before : ℕ) (d : Draws) : Type 0 where
  pub height : d.height ≡ next_draw before
  pub lean_x : d.lean_x ≡ next_draw d.height
  pub lean_y : d.lean_y ≡ next_draw d.lean_x
  pub flux : d.flux ≡ next_draw d.lean_y
  pub kind : d.kind ≡ next_draw d.flux
  pub small_lean_x : d.lean_x < MODULUS
  pub small_lean_y : d.lean_y < MODULUS
  pub small_kind : d.kind < MODULUS
