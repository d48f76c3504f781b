-- The demo's catalogue is a catalogue.
use Rattle.std.proofs.Common.{◌≡◌, ℕ, ◌+◌, ◌^◌, ◌%◌, ◌≤◌, ◌<◌, nat_eq, ◌*ℤ◌, ℤ, pos, ◌<ℤ◌, Bool, true, false, [], ◌∷◌, length, Option, Some, refl, sym, ap, ◌∙◌, arith, get_or, if◌then◌else◌}
use Rattle.std.specs.Prelude.{◌&&◌}
use Rattle.std.specs.List.{list_all}
use Rattle.std.proofs.lemmas.Int.{ints}
use Rattle.std.proofs.lemmas.Option.{slice_get-get_or}
use Rattle.sky_vector.specs.Points.{Point, is_admissible, is_coordinate}
use Rattle.table_rules.specs.Objects.{Obj, IsRow, is_further}
use Rattle.demo_rules.specs.declared.limits.TheConstants.{FLUXES, KINDS}
use Rattle.demo_rules.specs.Draws.{draw_of}
use Rattle.demo_rules.specs.DemoRows.{IsDemoObject, leaning_point, kept_point, on_meridian, cut_quotient, further_values, height, lean_x, lean_y}
use Rattle.demo_rules.specs.Laws.{DemoIsACatalogue}

kept_by : (p : Point) (rest last : Bool) → last ≡ is_admissible p → is_admissible (if rest && last then p else on_meridian) ≡ true
kept_by p true true e = sym e
kept_by p true false e = refl
kept_by p false last e = refl

-- what is kept is a position
kept_is_admissible : (p : Point) → is_admissible (kept_point p) ≡ true
kept_is_admissible p = kept_by p (is_coordinate p.x && is_coordinate p.y && is_coordinate p.z) (is_admissible p) refl

leaning_by : (p : Point) (none : Bool) → is_admissible p ≡ true → is_admissible (if none then on_meridian else p) ≡ true
leaning_by p true h = refl
leaning_by p false h = h

-- and so is what leans
pub leaning_is_admissible : (z u v : ℤ) (t h : ℕ) → is_admissible (leaning_point z u v t h) ≡ true
leaning_is_admissible z u v t h =
    leaning_by (kept_point (record { x = cut_quotient (u *ℤ pos t) h; y = cut_quotient (v *ℤ pos t) h; z = z })) (nat_eq h 0)
    (kept_is_admissible (record { x = cut_quotient (u *ℤ pos t) h; y = cut_quotient (v *ℤ pos t) h; z = z }))

small_is_further : (n : ℕ) → n ≤ 2 ^ 50 → is_further (Some (pos n)) ≡ true
small_is_further n h = grind (arith, ints, h)

two_further : (a b : Option ℤ) → is_further a ≡ true → is_further b ≡ true → list_all is_further (a ∷ b ∷ []) ≡ true
two_further a b h k = rw (h, k) refl

further_are : (seed i : ℕ) → list_all is_further (further_values seed i) ≡ true
further_are seed i =
    two_further (Some (pos (draw_of seed i 4 % FLUXES))) (Some (pos (draw_of seed i 5 % KINDS))) (small_is_further (draw_of seed i 4 % FLUXES) (omega arith)) (small_is_further (draw_of seed i 5 % KINDS) (omega arith))

-- an object of the demo is a row
object_is_row : (seed i : ℕ) (o : Obj) → i ≤ 2 ^ 22 → IsDemoObject seed i o → IsRow o
object_is_row seed i o few d = record {
  id = rw d.id (omega (arith, ints));
  most = rw d.id (omega (arith, ints, few));
  at = ap is_admissible d.at.is ∙ leaning_is_admissible (height seed i) (lean_x seed i) (lean_y seed i) d.at.t d.at.h;
  further = ap (list_all is_further) d.further ∙ further_are seed i;
  few = rw d.further (omega arith);
}

-- ids by places ascend with them
pub ids_ascend : (i j : ℕ) (a b : ℤ) → i < j → a ≡ pos (i + 1) → b ≡ pos (j + 1) → a <ℤ b
ids_ascend i j a b low ha hb = rw (ha, hb) (omega (arith, ints, low))

pub demo_is_a_catalogue : DemoIsACatalogue
demo_is_a_catalogue count seed c few demo =
    let at : (i : ℕ) (d : Obj) → i < length c.objects → IsDemoObject seed (i + 1) (get_or c.objects i d)
    = λ i d h. demo.each i (get_or c.objects i d) (slice_get-get_or c.objects i d h) in
    record {
      few_names = rw demo.names (omega arith);
      few = omega (arith, few, demo.all);
      ascend = λ i j d low h. ids_ascend i j _ _ low (at i d (omega (arith, low, h))).id (at j d h).id;
      wide = λ i d h. ap length (at i d h).further ∙ ap length (sym demo.names);
      rows = λ i d h. object_is_row seed (i + 1) (get_or c.objects i d) (omega (arith, few, demo.all, h)) (at i d h);
    }
