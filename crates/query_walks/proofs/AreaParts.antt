-- The parts of an area test that are within their limits.
use Rattle.std.proofs.Common.{◌≡◌, ◌≤◌, ◌<◌, ℤ, pos, Bool, true, false, List, [], ◌∷◌, length, get_or, Option, Some, None, refl, ap, ◌∙◌, arith}
use Rattle.std.specs.Prelude.{int_le, neg_ℤ, IfNone, IfSome}
use Rattle.std.proofs.Math.Dec.{T, T_prop}
use Rattle.sky_vector.specs.Points.{IsWithin}
use Rattle.sky_vector.specs.Pos.{point}
use Rattle.sky_vector.specs.declared.limits.TheConstants.{PART_MOST}
use Rattle.sky_vector.specs.declared.direction.Dir.{Dir}
use Rattle.sky_vector.specs.declared.position.Pos.{Pos}
use Rattle.bind_rules.specs.Areas.{where_met, where_some, within, pos_of, dir_of}

-- ---- one part

to_true : (b : Bool) → T b → b ≡ true
to_true true t = refl
to_true false t = absurd t

met_some : {A : Type 0} (b : Bool) (f : b ≡ true → Option A) (x : A) → b ≡ true → ((e : b ≡ true) → f e ≡ Some x) → where_met b f ≡ Some x
met_some true f x e h = h refl
met_some false f x e h = absurd (cc e)

two_prop : (z : ℤ) (l l' : T (int_le (neg_ℤ (pos PART_MOST)) z)) (h h' : T (int_le z (pos PART_MOST))) → ◌≡◌ {A = IsWithin z} (record { le = l }, record { le = h }) (record { le = l' }, record { le = h' })
two_prop z l l' h h' = rw (T_prop _ l l', T_prop _ h h') refl

within_prop : (z : ℤ) (a b : IsWithin z) → a ≡ b
within_prop z a b = two_prop z a.0.le b.0.le a.1.le b.1.le

some_within : (z : ℤ) (w : IsWithin z) → within z ≡ Some w
some_within z w =
    met_some (int_le (neg_ℤ (pos PART_MOST)) z) _ w (to_true _ w.0.le) (λ low.
    met_some (int_le z (pos PART_MOST)) _ w (to_true _ w.1.le) (λ high. ap Some (within_prop z _ w)))

-- ---- a direction and a position of parts that are tested

none_dir : (dx dy : ℤ) (a : Option (IsWithin dx)) (b : Option (IsWithin dy)) → ((IsWithin dx × IsWithin dy) → ⊥) → (let none : Option Dir = None in none) ≡ where_some a (λ x. where_some b (λ y. let made : Option Dir = Some (record { dx = dx; dy = dy; dx_within = x; dy_within = y }) in made))
none_dir dx dy None b h = refl
none_dir dx dy (Some x) None h = refl
none_dir dx dy (Some x) (Some y) h = absurd (h (x, y))

some_dir : (d : Dir) → Some d ≡ dir_of d.dx d.dy
some_dir d = rw (some_within d.dx d.dx_within, some_within d.dy d.dy_within) refl

pub dir_by : (dx dy : ℤ) (r : Option Dir) → IfSome r (λ d. (d.dx ≡ dx) × (d.dy ≡ dy)) → IfNone r ((IsWithin dx × IsWithin dy) → ⊥) → r ≡ dir_of dx dy
dir_by dx dy None made none = none_dir dx dy (within dx) (within dy) none
dir_by dx dy (Some d) made none = some_dir d ∙ ap (λ x. dir_of x d.dy) made.0 ∙ ap (dir_of dx) made.1

none_pos : (x y z : ℤ) (a : Option (IsWithin x)) (b : Option (IsWithin y)) (c : Option (IsWithin z)) → ((IsWithin x × IsWithin y × IsWithin z) → ⊥) → (let none : Option Pos = None in none) ≡ where_some a (λ p. where_some b (λ q. where_some c (λ r. let made : Option Pos = Some (record { x = x; y = y; z = z; x_within = p; y_within = q; z_within = r }) in made)))
none_pos x y z None b c h = refl
none_pos x y z (Some p) None c h = refl
none_pos x y z (Some p) (Some q) None h = refl
none_pos x y z (Some p) (Some q) (Some r) h = absurd (h (p, q, r))

some_pos : (p : Pos) → Some p ≡ pos_of p.x p.y p.z
some_pos p = rw (some_within p.x p.x_within, some_within p.y p.y_within, some_within p.z p.z_within) refl

pub pos_by : (x y z : ℤ) (r : Option Pos) → IfSome r (λ p. point p ≡ record { x = x; y = y; z = z }) → IfNone r ((IsWithin x × IsWithin y × IsWithin z) → ⊥) → r ≡ pos_of x y z
pos_by x y z None made none = none_pos x y z (within x) (within y) (within z) none
pos_by x y z (Some p) made none = some_pos p ∙ ap (λ at. pos_of at.x at.y at.z) made

-- ---- the arguments of a box

-- a list of five items is these items
pub five_items : {A : Type 0} (xs : List A) (a b c d e : A) → 5 ≤ length xs → length xs < 6 → a ≡ get_or xs 0 a → b ≡ get_or xs 1 b → c ≡ get_or xs 2 c → d ≡ get_or xs 3 d → e ≡ get_or xs 4 e → xs ≡ a ∷ (b ∷ (c ∷ (d ∷ (e ∷ []))))
five_items [] a b c d e low high p q r s t = absurd (omega (arith, low))
five_items (v ∷ []) a b c d e low high p q r s t = absurd (omega (arith, low))
five_items (v ∷ (w ∷ [])) a b c d e low high p q r s t = absurd (omega (arith, low))
five_items (v ∷ (w ∷ (x ∷ []))) a b c d e low high p q r s t = absurd (omega (arith, low))
five_items (v ∷ (w ∷ (x ∷ (y ∷ [])))) a b c d e low high p q r s t = absurd (omega (arith, low))
five_items (v ∷ (w ∷ (x ∷ (y ∷ (z ∷ []))))) a b c d e low high p q r s t = rw (p, q, r, s, t) refl
five_items (v ∷ (w ∷ (x ∷ (y ∷ (z ∷ (u ∷ us)))))) a b c d e low high p q r s t = absurd (omega (arith, high))
