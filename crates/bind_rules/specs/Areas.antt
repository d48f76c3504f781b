-- An area test with its centre and its directions.
use Rattle.std.specs.Prelude.{◌≡◌, ℤ, pos, neg_ℤ, int_le, Bool, true, false, refl, if◌then◌else◌}
use Rattle.std.specs.Prelude.{List, [], ◌∷◌, Option, None, Some}
use Rattle.std.proofs.lemmas.Float.{T_from_true}
use Rattle.sky_vector.specs.Points.{IsWithin}
use Rattle.sky_vector.specs.declared.limits.TheConstants.{PART_MOST}
use Rattle.sky_vector.specs.declared.direction.Dir.{Dir}
use Rattle.sky_vector.specs.declared.position.Pos.{Pos}
use Rattle.sql_bound.specs.declared.area.AreaTest.{AreaTest}
use Rattle.sql_bound.specs.declared.area.AreaTest.TheVariants as test
use Rattle.sql_tree.specs.declared.cond.AreaKind.{AreaKind}
use Rattle.sql_tree.specs.declared.cond.AreaKind.TheVariants as area
use Rattle.value_rules.specs.Sound.{is_sound_area}

-- the continuation on the proof, if the test is true, and else None
abbrev pub where_met : {A : Type 0} (b : Bool) → (b ≡ true → Option A) → Option A
where_met true f = f refl
where_met false f = None

-- the continuation on the value, if there is one, and else None
abbrev pub where_some : {A B : Type 0} → Option A → (A → Option B) → Option B
where_some (Some x) f = f x
where_some None f = None

-- the part is within its limits
abbrev pub within : (z : ℤ) → Option (IsWithin z)
within z =
    where_met (int_le (neg_ℤ (pos PART_MOST)) z) (λ low. where_met (int_le z (pos PART_MOST)) (λ high.
    Some (record { le = T_from_true _ low }, record { le = T_from_true _ high })))

-- the position with these coordinates
abbrev pub pos_of : ℤ → ℤ → ℤ → Option Pos
pos_of x y z =
    where_some (within x) (λ a. where_some (within y) (λ b. where_some (within z) (λ c.
    Some (record { x = x; y = y; z = z; x_within = a; y_within = b; z_within = c }))))

-- the direction with these parts
abbrev pub dir_of : ℤ → ℤ → Option Dir
dir_of dx dy =
    where_some (within dx) (λ a. where_some (within dy) (λ b.
    Some (record { dx = dx; dy = dy; dx_within = a; dy_within = b })))

-- the test, if it can be run
abbrev pub if_sound : AreaTest → Option AreaTest
if_sound t = if is_sound_area t then Some t else None

-- the test of a function with these arguments, if they are as many as it takes and within their limits: two heights; a
-- centre and a squared radius; two heights and two directions
abbrev pub area_test : AreaKind → List ℤ → Option AreaTest
area_test area.Band (lo ∷ hi ∷ []) = if_sound (test.Band lo hi)
area_test area.Cap (x ∷ y ∷ z ∷ n ∷ []) = where_some (pos_of x y z) (λ centre. if_sound (test.Cap centre n))
area_test area.Boxed (lo ∷ hi ∷ ax ∷ ay ∷ bx ∷ by ∷ []) =
    where_some (dir_of ax ay) (λ a. where_some (dir_of bx by) (λ b. if_sound (test.Boxed lo hi a b)))
area_test _ _ = None
