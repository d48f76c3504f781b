-- An area test of arguments that fit is sound.
use Rattle.std.proofs.Common.{◌≡◌, ℤ, Bool, true, false, cond, List, [], ◌∷◌, Option, Some, None, refl}
use Rattle.sky_vector.specs.declared.direction.Dir.{Dir}
use Rattle.sky_vector.specs.declared.position.Pos.{Pos}
use Rattle.sql_bound.specs.declared.area.AreaTest.{AreaTest}
use Rattle.sql_bound.specs.declared.area.AreaTest.TheVariants as test
use Rattle.sql_tree.specs.declared.cond.AreaKind.{AreaKind}
use Rattle.sql_tree.specs.declared.cond.AreaKind.TheVariants as area
use Rattle.value_rules.specs.Sound.{is_sound_area}
use Rattle.bind_rules.specs.Areas.{where_some, pos_of, dir_of, if_sound, area_test}
use Rattle.bind_rules.proofs.Each.{IfThere}

abbrev pub IsSoundArea : AreaTest → Type 0
IsSoundArea t = is_sound_area t ≡ true

sound_by : (t : AreaTest) (b : Bool) → is_sound_area t ≡ b → IfThere IsSoundArea (cond b (Some t) None)
sound_by t true h = h
sound_by t false h = tt

sound_if : (t : AreaTest) → IfThere IsSoundArea (if_sound t)
sound_if t = sound_by t (is_sound_area t) refl

cap_sound : (n : ℤ) (centre : Option Pos) → IfThere IsSoundArea (where_some centre (λ c. if_sound (test.Cap c n)))
cap_sound n None = tt
cap_sound n (Some c) = sound_if (test.Cap c n)

box_sound : (lo hi : ℤ) (a b : Option Dir) → IfThere IsSoundArea (where_some a (λ c. where_some b (λ d. if_sound (test.Boxed lo hi c d))))
box_sound lo hi None b = tt
box_sound lo hi (Some c) None = tt
box_sound lo hi (Some c) (Some d) = sound_if (test.Boxed lo hi c d)

-- the area test of arguments, where they fit, is sound
pub area_sound : (kind : AreaKind) (args : List ℤ) → IfThere IsSoundArea (area_test kind args)
area_sound area.Band [] = tt
area_sound area.Band (lo ∷ []) = tt
area_sound area.Band (lo ∷ (hi ∷ [])) = refl
area_sound area.Band (lo ∷ (hi ∷ (x ∷ more))) = tt
area_sound area.Cap [] = tt
area_sound area.Cap (x ∷ []) = tt
area_sound area.Cap (x ∷ (y ∷ [])) = tt
area_sound area.Cap (x ∷ (y ∷ (z ∷ []))) = tt
area_sound area.Cap (x ∷ (y ∷ (z ∷ (n ∷ [])))) = cap_sound n (pos_of x y z)
area_sound area.Cap (x ∷ (y ∷ (z ∷ (n ∷ (m ∷ more))))) = tt
area_sound area.Boxed [] = tt
area_sound area.Boxed (lo ∷ []) = tt
area_sound area.Boxed (lo ∷ (hi ∷ [])) = tt
area_sound area.Boxed (lo ∷ (hi ∷ (ax ∷ []))) = tt
area_sound area.Boxed (lo ∷ (hi ∷ (ax ∷ (ay ∷ [])))) = tt
area_sound area.Boxed (lo ∷ (hi ∷ (ax ∷ (ay ∷ (bx ∷ []))))) = tt
area_sound area.Boxed (lo ∷ (hi ∷ (ax ∷ (ay ∷ (bx ∷ (by ∷ [])))))) = box_sound lo hi (dir_of ax ay) (dir_of bx by)
area_sound area.Boxed (lo ∷ (hi ∷ (ax ∷ (ay ∷ (bx ∷ (by ∷ (m ∷ more))))))) = tt
