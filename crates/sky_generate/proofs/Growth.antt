-- The demo's catalogue with one object more.
use Rattle.std.proofs.Common.{◌≡◌, ℕ, zero, suc, ◌+◌, ◌-◌, ◌*◌, ◌%◌, ◌^◌, ◌<◌, ◌≤◌, pos, arith, length, map}
use Rattle.std.proofs.Common.{List, [], ◌∷◌, ◌++◌, Some, refl, sym, ap, subst, ◌∙◌}
use Rattle.std.specs.Prelude.{codes, slice_get}
use Rattle.std.proofs.Math.Nat.{pow-suc}
use Rattle.std.proofs.lemmas.List.{length-append}
use Rattle.std.proofs.lemmas.Nat.{mod_below}
use Rattle.sky_vector.specs.Points.{Point}
use Rattle.table_rules.specs.Objects.{Catalogue, Obj}
use Rattle.table_rules.specs.declared.limits.TheConstants.{ROWS_MOST}
use Rattle.demo_rules.proofs.Catalogues.{demo_is_a_catalogue}
use Rattle.demo_rules.specs.DemoRows.{IsDemoCatalogue, IsDemoObject, StandsAt}
use Rattle.demo_rules.specs.Draws.{draw, draw_of}
use Rattle.demo_rules.specs.declared.limits.TheConstants.{FLUXES, KINDS, MODULUS, MULTIPLIER}
use Rattle.sky_generate.specs.declared.draws.Draws.{Draws}
use Rattle.sky_generate.specs.Draws.{AreDrawnFrom, next_draw}
use Rattle.sky_generate.specs.Places.{IsObjectBy, StandsBy}
use Rattle.sky_generate.specs.SoFar.{IsDemoRange, IsMadeSoFar}
use Rattle.sky_generate.proofs.Powers.{grouped, reduced}
use Rattle.sky_row.specs.Columns.{AreAscending}
use Rattle.sky_row.proofs.Ids.{ids_ascend as ascending_ids}

-- ---- draws

next_of : (m p seed k : ℕ) → seed * m ^ k % p * m % p ≡ seed * m ^ suc k % p
next_of m p seed k =
    reduced (seed * m ^ k) m p
    ∙ ap (λ x. x % p) (grouped seed (m ^ k) m ∙ ap (λ x. seed * x) (sym (pow-suc m k)))

-- the draw behind draw k is draw k + 1
step : (seed b k n : ℕ) → b ≡ draw seed k → n ≡ suc k → next_draw b ≡ draw seed n
step seed b k n e f = ap next_draw e ∙ next_of MULTIPLIER MODULUS seed k ∙ ap (draw seed) (sym f)

-- ---- the next object

stands : (seed i a b c : ℕ) (at : Point) → a ≡ draw_of seed i 1 → b ≡ draw_of seed i 2 → c ≡ draw_of seed i 3
    → StandsBy a b c at → StandsAt seed i at
stands seed i a b c at e f g s =
    let by_first = subst (λ x. StandsBy x b c at) e s in
    let by_second = subst (λ x. StandsBy (draw_of seed i 1) x c at) f by_first in
    let by_all = subst (λ x. StandsBy (draw_of seed i 1) (draw_of seed i 2) x at) g by_second in
    record { t = by_all.t; h = by_all.h; from_axis = by_all.from_axis; long = by_all.long; is = by_all.is }

-- the five draws of the next object
pub record AreDrawsOf (seed i : ℕ) (d : Draws) : Type 0 where
  pub height : d.height ≡ draw_of seed i 1
  pub lean_x : d.lean_x ≡ draw_of seed i 2
  pub lean_y : d.lean_y ≡ draw_of seed i 3
  pub flux : d.flux ≡ draw_of seed i 4
  pub kind : d.kind ≡ draw_of seed i 5

drawn : (made seed before : ℕ) (d : Draws) → before ≡ draw seed (5 * made) → AreDrawnFrom before d
    → AreDrawsOf seed (made + 1) d
drawn made seed before d e from =
    let a = from.height ∙ step seed before (5 * made) (5 * (made + 1 - 1) + 1) e (omega arith) in
    let b = from.lean_x ∙ step seed d.height (5 * (made + 1 - 1) + 1) (5 * (made + 1 - 1) + 2) a (omega arith) in
    let c = from.lean_y ∙ step seed d.lean_x (5 * (made + 1 - 1) + 2) (5 * (made + 1 - 1) + 3) b (omega arith) in
    let f = from.flux ∙ step seed d.lean_y (5 * (made + 1 - 1) + 3) (5 * (made + 1 - 1) + 4) c (omega arith) in
    let k = from.kind ∙ step seed d.flux (5 * (made + 1 - 1) + 4) (5 * (made + 1 - 1) + 5) f (omega arith) in
    record { height = a; lean_x = b; lean_y = c; flux = f; kind = k }

demo_object : (seed i : ℕ) (d : Draws) (o : Obj) → AreDrawsOf seed i d → IsObjectBy i d o → IsDemoObject seed i o
demo_object seed i d o are by = record {
  id = by.id;
  at = stands seed i d.height d.lean_x d.lean_y o.at are.height are.lean_x are.lean_y by.at;
  further = by.further
      ∙ ap (λ n. Some (pos (n % FLUXES)) ∷ Some (pos (d.kind % KINDS)) ∷ []) are.flux
      ∙ ap (λ n. Some (pos (draw_of seed i 4 % FLUXES)) ∷ Some (pos (n % KINDS)) ∷ []) are.kind;
}

-- ---- one more

-- what holds of each by its place holds with one more behind them
each_more : {X : Type 0} (P : ℕ → X → Type 0) (xs : List X) (x : X)
    → ((i : ℕ) → (y : X) → slice_get xs i ≡ Some y → P i y) → P (length xs) x → (i : ℕ) → (y : X)
    → slice_get (xs ++ x ∷ []) i ≡ Some y → P i y
each_more P [] x h last zero y g = let e : x ≡ y = cc in subst (P 0) e last
each_more P [] x h last (suc i) y g = absurd cc
each_more P (z ∷ zs) x h last zero y g = h 0 y g
each_more P (z ∷ zs) x h last (suc i) y g =
    each_more (λ j. P (suc j)) zs x (λ j w k. h (suc j) w k) last i y g

at_place : (seed i j : ℕ) (o : Obj) → i ≡ j → IsDemoObject seed i o → IsDemoObject seed j o
at_place seed i j o e h = subst (λ n. IsDemoObject seed n o) e h

each_object : (from made seed : ℕ) (objects : List Obj) (o : Obj) → length objects ≡ made
    → ((i : ℕ) → (p : Obj) → slice_get objects i ≡ Some p → IsDemoObject seed (from + i + 1) p)
    → IsDemoObject seed (from + made + 1) o
    → (i : ℕ) → (p : Obj) → slice_get (objects ++ o ∷ []) i ≡ Some p → IsDemoObject seed (from + i + 1) p
each_object from made seed objects o count h last =
    each_more (λ i p. IsDemoObject seed (from + i + 1) p) objects o h
    (at_place seed (from + made + 1) (from + length objects + 1) o (omega (arith, count)) last)

-- with the next object the range is one more
pub one_more_made : (from made seed before : ℕ) (old new : Catalogue) (d : Draws) (o : Obj) → IsMadeSoFar from made seed old before
    → AreDrawnFrom before d → IsObjectBy (from + made + 1) d o → new.names ≡ old.names → new.objects ≡ old.objects ++ o ∷ []
    → IsMadeSoFar from (made + 1) seed new d.kind
one_more_made from made seed before old new d o h drawn_from by names objects =
    let are = drawn (from + made) seed before d h.before drawn_from in
    let all = length-append old.objects (o ∷ []) in
    record {
      rows = record {
        names = names ∙ h.rows.names;
        all = let whole = ap length objects in let few = h.rows.all in omega (arith, whole, all, few);
        each = subst (λ list. (i : ℕ) → (p : Obj) → slice_get list i ≡ Some p → IsDemoObject seed (from + i + 1) p)
            (sym objects)
            (each_object from made seed old.objects o h.rows.all h.rows.each (demo_object seed (from + made + 1) d o are by));
      };
      before = are.kind ∙ ap (draw seed) (omega arith);
    }

-- at first there is none
pub none_made : (from seed before number : ℕ) (c : Catalogue) → c ≡ record { names = codes "flux" ∷ codes "kind" ∷ []; objects = [] } → before ≡ draw seed number
    → number ≡ 5 * from → IsMadeSoFar from 0 seed c before
none_made from seed before number c e is place =
    let start : IsMadeSoFar from 0 seed (record { names = codes "flux" ∷ codes "kind" ∷ []; objects = [] }) before = record {
      rows = record { names = refl; all = refl; each = λ i o h. absurd cc };
      before = is ∙ ap (draw seed) (omega (arith, place));
    } in
    subst (λ x. IsMadeSoFar from 0 seed x before) (sym e) start

-- ---- ranges

-- what holds of each of two lists by its place holds of both
each_both : {X : Type 0} (P : ℕ → X → Type 0) (xs ys : List X)
    → ((i : ℕ) → (y : X) → slice_get xs i ≡ Some y → P i y) → ((i : ℕ) → (y : X) → slice_get ys i ≡ Some y → P (length xs + i) y)
    → (i : ℕ) → (y : X) → slice_get (xs ++ ys) i ≡ Some y → P i y
each_both P [] ys h k i y g = subst (λ n. P n y) (omega arith) (k i y g)
each_both P (z ∷ zs) ys h k zero y g = h 0 y g
each_both P (z ∷ zs) ys h k (suc i) y g =
    each_both (λ j. P (suc j)) zs ys (λ j w q. h (suc j) w q) (λ j w q. subst (λ n. P n w) (omega arith) (k j w q)) i y g

-- the objects of two ranges, one after the other
pub both_made : (from at more seed : ℕ) (x y c : Catalogue) → IsDemoRange from at seed x → IsDemoRange (from + at) more seed y → c.names ≡ x.names
    → c.objects ≡ x.objects ++ y.objects → IsDemoRange from (at + more) seed c
both_made from at more seed x y c a b named joined = record {
  names = named ∙ a.names;
  all = omega (arith, ap length joined, length-append x.objects y.objects, a.all, b.all);
  each = subst (λ list. (i : ℕ) → (p : Obj) → slice_get list i ≡ Some p → IsDemoObject seed (from + i + 1) p) (sym joined)
      (each_both (λ i p. IsDemoObject seed (from + i + 1) p) x.objects y.objects a.each
      (λ i p got. at_place seed (from + at + i + 1) (from + (length x.objects + i) + 1) p (omega (arith, a.all)) (b.each i p got)));
}

-- the range of all objects is the demo's catalogue
pub whole_range : (count seed : ℕ) (c made : Catalogue) → IsDemoRange 0 count seed c → made ≡ c → IsDemoCatalogue count seed made
whole_range count seed c made range is = subst (IsDemoCatalogue count seed) (sym is) (record {
  names = range.names;
  all = range.all;
  each = λ i o got. at_place seed (0 + i + 1) (i + 1) o (omega arith) (range.each i o got);
})

pub range_ascends : (count seed : ℕ) (c : Catalogue) → count ≤ ROWS_MOST → IsDemoRange 0 count seed c → AreAscending (map (λ o. o.id) c.objects)
range_ascends count seed c few range =
    ascending_ids c.objects (demo_is_a_catalogue count seed c few (whole_range count seed c c range refl)).ascend

-- ---- what the row's place asks for

pub before_is_below : (from made seed before : ℕ) (c : Catalogue) → IsMadeSoFar from made seed c before → before < MODULUS
before_is_below from made seed before c h =
    subst (λ n. n < MODULUS) (sym h.before) (mod_below (seed * MULTIPLIER ^ (5 * (from + made))) MODULUS (omega arith))

pub has_room : (from made count seed before : ℕ) (c : Catalogue) → IsMadeSoFar from made seed c before → made < count → from + count ≤ ROWS_MOST
    → length c.objects < ROWS_MOST
has_room from made count seed before c h low few = omega (arith, low, few, h.rows.all)

pub is_wide : (from made seed before id : ℕ) (c : Catalogue) (d : Draws) (o : Obj) → IsMadeSoFar from made seed c before
    → IsObjectBy id d o → length o.further ≡ length c.names
is_wide from made seed before id c d o h by = ap length by.further ∙ sym (ap length h.rows.names)
