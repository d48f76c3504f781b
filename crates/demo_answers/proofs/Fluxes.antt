-- The sum of the demo's fluxes over any of its rows is far within the range of the numbers that a query computes.
use Rattle.std.proofs.Common.{◌≡◌, ◌∙◌, refl, ap, ℕ, suc, ◌+◌, ◌*◌, ◌%◌, ◌^◌, ◌≤◌, ℤ, pos, ◌+ℤ◌, Bool, true, false, cond, List, [], ◌∷◌, ◌++◌, map, filter, length, get_or, slice_get, Some, None, option_to_list, arith}
use Rattle.std.specs.Prelude.{find, not, unwrap_or}
use Rattle.std.specs.List.{AllByRecursion as Each, flat_map}
use Rattle.std.proofs.Math.Nat.{suc-mul}
use Rattle.std.proofs.lemmas.Int.{ints}
use Rattle.std.proofs.lemmas.List.Elements.{recursion_from_All}
use Rattle.std.proofs.lemmas.Option.{slice_get-get_or}
use Rattle.sky_vector.specs.Numbers.{is_query_number}
use Rattle.table_rules.specs.Objects.{Obj, Catalogue, cell}
use Rattle.table_rules.specs.declared.limits.TheConstants.{ROWS_MOST}
use Rattle.sql_bound.specs.declared.expr.BoundExpr.{BoundExpr}
use Rattle.value_rules.specs.Truth.{meets}
use Rattle.value_rules.specs.Values.{Pick, row, value_of}
use Rattle.value_rules.proofs.Trees.{trees}
use Rattle.answer_rules.specs.Aggregates.{total, values_on}
use Rattle.answer_rules.specs.Answers.{flat_answer, unless_out}
use Rattle.answer_rules.specs.Examples.{column, first_col}
use Rattle.answer_rules.specs.Groups.{Group, groups_of, groups_answer, totals_over}
use Rattle.answer_rules.proofs.Apart.{each_filter, each_map}
use Rattle.transcript_rules.specs.Refusals.{total_by}
use Rattle.demo_rules.specs.declared.limits.TheConstants.{FLUXES}
use Rattle.demo_rules.specs.Draws.{draw_of}
use Rattle.demo_rules.specs.DemoRows.{IsDemoCatalogue, IsDemoObject}
use Rattle.demo_answers.proofs.DemoQueries.{demo_totals, demo_kinds, demo_belt, demo_pairs}

-- ---- the flux of a row

-- the flux as an expression
abbrev flux : BoundExpr
flux = column (first_col 4)

-- its value is that of the first further column
flux_is : (p : Pick) → value_of flux p ≡ cell p.first 4
flux_is p = simp trees refl

-- A row with a flux below 100,000.
record IsDim (p : Pick) : Type 0 where
  n : ℕ
  is : value_of flux p ≡ Some (pos n)
  few : n ≤ 99999

-- each object of the demo is one
dim : (seed i : ℕ) (o : Obj) → IsDemoObject seed i o → IsDim (row o)
dim seed i o d = record {
  n = draw_of seed i 4 % FLUXES;
  is = flux_is (row o) ∙ ap (λ further. unwrap_or (slice_get further 0) None) d.further;
  few = omega arith;
}

all_dim : (count seed : ℕ) (c : Catalogue) → IsDemoCatalogue count seed c → Each (λ o. IsDim (row o)) c.objects
all_dim count seed c demo =
    recursion_from_All (λ o. IsDim (row o)) c.objects
    (λ i d low. dim seed (i + 1) (get_or c.objects i d) (demo.each i (get_or c.objects i d) (slice_get-get_or c.objects i d low)))

-- ---- sums of fluxes

-- The sum of the fluxes of some rows.
record IsSum (ps : List Pick) : Type 0 where
  n : ℕ
  is : total (values_on flux ps) ≡ pos n
  few : n ≤ length ps * 99999

plus : (m n : ℕ) → pos m +ℤ pos n ≡ pos (m + n)
plus m n = omega (arith, ints)

sums : (ps : List Pick) → Each IsDim ps → IsSum ps
sums [] h = record { n = 0; is = refl; few = omega arith }
sums (p ∷ ps) h =
    let rest : IsSum ps = sums ps h.1 in
    record {
      n = h.0.n + rest.n;
      is = ap (λ v. total (option_to_list v ++ values_on flux ps)) h.0.is ∙ ap (λ z. pos h.0.n +ℤ z) rest.is ∙ plus h.0.n rest.n;
      few = omega (arith, h.0.few, rest.few, suc-mul (length ps) 99999);
    }

-- what is kept of the rows is no more than these
kept_step : (p : Pick) (ps : List Pick) (n : ℕ) (b : Bool) → length ps ≤ n → length (cond b (p ∷ ps) ps) ≤ suc n
kept_step p ps n true h = omega (arith, h)
kept_step p ps n false h = omega (arith, h)

kept_few : (test : Pick → Bool) (os : List Obj) → length (filter test (map row os)) ≤ length os
kept_few test [] = omega arith
kept_few test (o ∷ os) = kept_step (row o) (filter test (map row os)) (length os) (test (row o)) (kept_few test os)

-- ---- the range

in_range : (n : ℕ) → n ≤ 2 ^ 22 * 99999 → is_query_number (pos n) ≡ true
in_range n h = grind (arith, ints, h)

-- the sum over the rows of the demo that pass a test is within the range
sum_in_range : (count seed : ℕ) (c : Catalogue) (test : Pick → Bool) → count ≤ ROWS_MOST → IsDemoCatalogue count seed c
    → is_query_number (total (values_on flux (filter test (map row c.objects)))) ≡ true
sum_in_range count seed c test few demo =
    let ps : List Pick = filter test (map row c.objects) in
    let s : IsSum ps = sums ps (each_filter IsDim test (map row c.objects) (each_map IsDim row c.objects (all_dim count seed c demo))) in
    let short : length ps ≤ length c.objects = kept_few test c.objects in
    let low : s.n ≤ 2 ^ 22 * 99999 = omega (arith, s.few, short, demo.all, few) in
    ap is_query_number s.is ∙ in_range s.n low

-- ---- the answers

-- of two totals that are one in range none is out of it
none_out : (t : ℤ) → is_query_number t ≡ true → find (λ z. not (is_query_number z)) (t ∷ t ∷ []) ≡ None
none_out t h = ap (λ b. cond (not b) (Some t) (cond (not b) (Some t) None)) h

pub totals_have_an_answer : (count seed : ℕ) (c : Catalogue) → count ≤ ROWS_MOST → IsDemoCatalogue count seed c
    → total_by (flat_answer c.objects demo_totals) ≡ None
totals_have_an_answer count seed c few demo =
    let ps : List Pick = filter (meets []) (map row c.objects) in
    ap (λ out. total_by (unless_out out (groups_answer [] demo_totals (groups_of [] ps))))
    (none_out (total (values_on flux ps)) (sum_in_range count seed c (meets []) few demo))

-- a grouping without sums has no totals
no_totals : (gs : List Group) → flat_map (λ g. flat_map (totals_over g) demo_kinds.items) gs ≡ []
no_totals [] = refl
no_totals (g ∷ gs) = no_totals gs

pub kinds_have_an_answer : (objects : List Obj) → total_by (flat_answer objects demo_kinds) ≡ None
kinds_have_an_answer objects =
    let gs : List Group = groups_of (first_col 5 ∷ []) (filter (meets demo_kinds.conds) (map row objects)) in
    ap (λ ts. total_by (unless_out (find (λ z. not (is_query_number z)) ts) (groups_answer (first_col 5 ∷ []) demo_kinds gs)))
    (no_totals gs)

-- rows and pairs have no totals
pub belt_has_an_answer : (objects : List Obj) → total_by (flat_answer objects demo_belt) ≡ None
belt_has_an_answer objects = refl

pub pairs_have_an_answer : (objects : List Obj) → total_by (flat_answer objects demo_pairs) ≡ None
pairs_have_an_answer objects = refl
