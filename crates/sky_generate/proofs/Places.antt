-- Which points are kept, and where an object stands by its draws.
use Rattle.std.proofs.Common.{◌≡◌, ℕ, ◌^◌, nat_eq, ℤ, pos, ◌+ℤ◌, ◌-ℤ◌, ◌*ℤ◌, nat_abs, Bool, true, false}
use Rattle.std.proofs.Common.{if◌then◌else◌, refl, ap, subst, ◌∙◌, arith}
use Rattle.std.specs.Prelude.{◌&&◌}
use Rattle.std.proofs.lemmas.Bool.{and_parts}
use Rattle.std.proofs.lemmas.Int.{ints}
use Rattle.sky_vector.specs.Points.{IsWithin, Point, is_admissible, is_coordinate, square}
use Rattle.sky_vector.specs.Roots.{IsRoot}
use Rattle.demo_rules.proofs.Catalogues.{leaning_is_admissible}
use Rattle.demo_rules.specs.DemoRows.{cut_quotient, kept_point, leaning_point, on_meridian}
use Rattle.sky_generate.specs.Places.{StandsBy, height_by, lean_by}

one_within : (a : ℤ) → is_coordinate a ≡ true → IsWithin a
one_within a h = (grind (arith, ints, h), grind (arith, ints, h))

-- coordinates are parts of a position
all_within : (x y z : ℤ) → (is_coordinate x && is_coordinate y && is_coordinate z) ≡ true
    → IsWithin x × IsWithin y × IsWithin z
all_within x y z h =
    let outer = and_parts (is_coordinate x && is_coordinate y) (is_coordinate z) h in
    let inner = and_parts (is_coordinate x) (is_coordinate y) outer.0 in
    (one_within x inner.0, one_within y inner.1, one_within z outer.1)

outside_by : (p at : Point) (rest last : Bool) → (rest ≡ true → ⊥) → at ≡ on_meridian
    → at ≡ (if rest && last then p else on_meridian)
outside_by p at false last out h = h
outside_by p at true last out h = absurd (out refl)

-- a point whose parts are not those of a position is not kept
pub kept_nowhere : (x y z : ℤ) (at : Point) → ((IsWithin x × IsWithin y × IsWithin z) → ⊥) → at ≡ on_meridian
    → at ≡ kept_point (record { x = x; y = y; z = z })
kept_nowhere x y z at out h =
    outside_by (record { x = x; y = y; z = z }) at (is_coordinate x && is_coordinate y && is_coordinate z)
    (is_admissible (record { x = x; y = y; z = z })) (λ all. out (all_within x y z all)) h

-- the point of these parts
abbrev pub at_parts : (x y z : ℤ) → Point
at_parts x y z = record { x = x; y = y; z = z }

-- points of equal parts
pub same_parts : (x y z a b d : ℤ) → a ≡ x → b ≡ y → d ≡ z → at_parts a b d ≡ at_parts x y z
same_parts x y z a b d e f g =
    ap (λ n. at_parts n b d) e ∙ ap (λ n. at_parts x n d) f ∙ ap (λ n. at_parts x y n) g

-- what is kept of an equal point
pub same_kept : (p q at : Point) → q ≡ p → at ≡ kept_point q → at ≡ kept_point p
same_kept p q at e h = h ∙ ap kept_point e

leaning_by : (at p : Point) (none : Bool) → none ≡ false → at ≡ p → at ≡ (if none then on_meridian else p)
leaning_by at p false e h = h
leaning_by at p true e h = absurd cc

-- a point that leans somewhere is kept by its parts
pub leaning_kept : (z u v : ℤ) (t h : ℕ) (at : Point) (a b d : ℤ) → nat_eq h 0 ≡ false
    → a ≡ cut_quotient (u *ℤ pos t) h → b ≡ cut_quotient (v *ℤ pos t) h → d ≡ z
    → at ≡ kept_point (record { x = a; y = b; z = d }) → at ≡ leaning_point z u v t h
leaning_kept z u v t h at a b d some first second third is =
    leaning_by at
    (kept_point (record { x = cut_quotient (u *ℤ pos t) h; y = cut_quotient (v *ℤ pos t) h; z = z }))
    (nat_eq h 0) some
    (is ∙ ap (λ n. kept_point (record { x = n; y = b; z = d })) first
    ∙ ap (λ n. kept_point (record { x = cut_quotient (u *ℤ pos t) h; y = n; z = d })) second
    ∙ ap (λ n. kept_point (record { x = cut_quotient (u *ℤ pos t) h; y = cut_quotient (v *ℤ pos t) h; z = n })) third)

-- where an object stands whose height and leaning are those of its draws
pub stands_by : (z u v t h : ℕ) (high lean_u lean_v : ℤ) (at : Point) → high ≡ height_by z → lean_u ≡ lean_by u
    → lean_v ≡ lean_by v → IsRoot (nat_abs (pos (2 ^ 56) -ℤ square high)) t
    → IsRoot (nat_abs (square lean_u +ℤ square lean_v)) h → at ≡ leaning_point high lean_u lean_v t h
    → StandsBy z u v at
stands_by z u v t h high lean_u lean_v at e f g from_axis long is = record {
  t = t;
  h = h;
  from_axis = subst (λ n. IsRoot (nat_abs (pos (2 ^ 56) -ℤ square n)) t) e from_axis;
  long = subst (λ n. IsRoot (nat_abs (square (lean_by u) +ℤ square n)) h) g
      (subst (λ n. IsRoot (nat_abs (square n +ℤ square lean_v)) h) f long);
  is = is ∙ ap (λ n. leaning_point n lean_u lean_v t h) e ∙ ap (λ n. leaning_point (height_by z) n lean_v t h) f
      ∙ ap (λ n. leaning_point (height_by z) (lean_by u) n t h) g;
}

-- it is a position of the sky
pub stands_admissible : (z u v : ℕ) (at : Point) → StandsBy z u v at → is_admissible at ≡ true
stands_admissible z u v at h =
    ap is_admissible h.is ∙ leaning_is_admissible (height_by z) (lean_by u) (lean_by v) h.t h.h
