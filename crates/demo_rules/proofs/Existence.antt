-- The demo's catalogue exists.
use Rattle.std.proofs.Common.{◌≡◌, ℕ, zero, suc, ◌+◌, ◌*◌, ◌≤◌, ◌<◌, ◌⊎◌, inl, inr, pos, ◌+ℤ◌, ◌-ℤ◌, nat_abs, List, [], ◌∷◌, length, Some, refl, sym, ap, arith}
use Rattle.std.specs.Prelude.{codes, slice_get}
use Rattle.std.proofs.lemmas.Bool.{cases_lt}
use Rattle.std.proofs.lemmas.Nat.{mul-lt}
use Rattle.sky_vector.specs.Points.{Point, square}
use Rattle.sky_vector.specs.declared.limits.TheConstants.{RADIUS}
use Rattle.table_rules.specs.Objects.{Obj}
use Rattle.sky_vector.specs.Roots.{IsRoot}
use Rattle.demo_rules.specs.DemoRows.{StandsAt, IsDemoObject, leaning_point, height, lean_x, lean_y, further_values}
use Rattle.demo_rules.specs.Laws.{DemoIsThere}

-- the root of a number, from that of the one before it
next_root : (n r : ℕ) → IsRoot n r → ((n + 1 < (r + 1) * (r + 1)) ⊎ ((r + 1) * (r + 1) ≤ n + 1)) → (s : ℕ) × IsRoot (suc n) s
next_root n r h (inl low) = (r, (omega (arith, h.0), omega (arith, low)))
next_root n r h (inr high) =
    (r + 1, (omega (arith, high), omega (arith, h.1, mul-lt (r + 1) (r + 1) (r + 1 + 1) (r + 1 + 1) (omega arith) (omega arith))))

-- each number has a root
root_of : (n : ℕ) → (r : ℕ) × IsRoot n r
root_of zero = (0, (omega arith, omega arith))
root_of (suc n) =
    let before = root_of n in next_root n before.0 before.1 (cases_lt (n + 1) ((before.0 + 1) * (before.0 + 1)))

stands : (seed i : ℕ) → (at : Point) × StandsAt seed i at
stands seed i =
    let t = root_of (nat_abs (pos (RADIUS * RADIUS) -ℤ square (height seed i))) in
    let h = root_of (nat_abs (square (lean_x seed i) +ℤ square (lean_y seed i))) in (
      leaning_point (height seed i) (lean_x seed i) (lean_y seed i) t.0 h.0,
      record { t = t.0; h = h.0; from_axis = t.1; long = h.1; is = refl },
    )

object : (seed i : ℕ) → (o : Obj) × IsDemoObject seed i o
object seed i =
    let s = stands seed i in
    (record { id = pos i; at = s.0; further = further_values seed i }, record { id = refl; at = s.1; further = refl })

-- so many objects behind the first ones
unfoldable objects : (seed first count : ℕ) → List Obj
objects seed first zero = []
objects seed first (suc count) = (object seed (first + 1)).0 ∷ objects seed (first + 1) count

count_of : (seed first count : ℕ) → length (objects seed first count) ≡ count
unfolding objects
count_of seed first zero = refl
count_of seed first (suc count) = ap suc (count_of seed (first + 1) count)

moved : (seed i j : ℕ) (o : Obj) → i ≡ j → IsDemoObject seed i o → IsDemoObject seed j o
moved seed i j o e h = rw (sym e) h

each : (seed first count i : ℕ) (o : Obj) → slice_get (objects seed first count) i ≡ Some o → IsDemoObject seed (first + i + 1) o
unfolding objects
each seed first zero i o h = absurd cc
each seed first (suc count) zero o h =
    let e : (object seed (first + 1)).0 ≡ o = cc in
    moved seed (first + 1) (first + 0 + 1) o (omega arith) (rw (sym e) (object seed (first + 1)).1)
each seed first (suc count) (suc i) o h =
    moved seed (first + 1 + i + 1) (first + suc i + 1) o (omega arith) (each seed (first + 1) count i o h)

pub demo_is_there : DemoIsThere
demo_is_there count seed = (
  record { names = codes "flux" ∷ codes "kind" ∷ []; objects = objects seed 0 count },
  record { names = refl; all = count_of seed 0 count; each = λ i o h. moved seed (0 + i + 1) (i + 1) o (omega arith) (each seed 0 count i o h) },
)
