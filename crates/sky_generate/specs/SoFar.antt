-- The demo's catalogue while it is being made.
use Rattle.std.specs.Prelude.{◌≡◌, ℕ, ◌+◌, ◌*◌, [], ◌∷◌, length, codes, Some, slice_get}
use Rattle.table_rules.specs.Objects.{Catalogue, Obj}
use Rattle.demo_rules.specs.declared.limits.TheConstants.{DRAWS_EACH}
use Rattle.demo_rules.specs.Draws.{draw}
use Rattle.demo_rules.specs.DemoRows.{IsDemoObject}

-- The objects of the demo after the first `from`: as many as `count`.
pub record IsDemoRange (from count seed : ℕ) (c : Catalogue) : Type 0 where
  pub names : c.names ≡ codes "flux" ∷ codes "kind" ∷ []
  pub all : length c.objects ≡ count
  pub each : (i : ℕ) → (o : Obj) → slice_get c.objects i ≡ Some o → IsDemoObject seed (from + i + 1) o

-- The objects after the first `from`, `made` of them, and the last draw that was taken, which is the seed if there is none.
pub record IsMadeSoFar (from made seed : ℕ) (c : Catalogue) (last : ℕ) : Type 0 where
  pub rows : IsDemoRange from made seed c
  pub before : last ≡ draw seed (DRAWS_EACH * (from + made))
