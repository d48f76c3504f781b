-- A plan lists filled chunks, and a query that is not refused for its radius reaches at each of them.
use Rattle.std.proofs.Common.{◌≡◌, ℕ, ◌≤◌, ◌<◌, ◌*◌, ℤ, pos, ◌≤ℤ◌, min, Bool, true, false, ◌&&◌, List, [], ◌∷◌, map, Some, None, refl, ◌∙◌, arith}
use Rattle.std.specs.Prelude.{All, int_lt, if◌then◌else◌}
use Rattle.std.specs.List.{AllByRecursion as Each, fold}
use Rattle.std.proofs.Math.Nat.{min-le_left, min-le_right}
use Rattle.std.proofs.lemmas.Int.{ints}
use Rattle.std.proofs.lemmas.List.Elements.{All-filter, All-from_recursion, filter_passes}
use Rattle.std.proofs.lemmas.List.Kept.{AllPairs-filter}
use Rattle.sky_vector.specs.Points.{square}
use Rattle.sky_vector.proofs.Signed.{mul_mono}
use Rattle.sky_rules.specs.Partition.{Partition, chunk_count, overlap_at}
use Rattle.sky_rules.specs.Chunks.{all_chunks}
use Rattle.sky_rules.proofs.Ranges.{range_below, range_ascends}
use Rattle.sql_bound.specs.declared.query.Shape.{Shape}
use Rattle.sql_bound.specs.declared.query.Shape.TheVariants.{Rows, Pairs, Groups}
use Rattle.answer_rules.specs.declared.refusal.Radius.{Radius}
use Rattle.answer_rules.specs.Coverage.{PlanFinishes}
use Rattle.answer_rules.specs.PlanLaws.{PlanIsFilled, PlanAscends, RadiusReaches, RadiusReachesOver}
use Rattle.answer_rules.specs.Plans.{is_needed, plan_of, overlap_of, above_radius, radius_by, Reaches}
use Rattle.answer_rules.proofs.Apart.{each_always}
use Rattle.answer_rules.proofs.Covering.{answer_is_flat, plan_covers}
use Rattle.answer_rules.proofs.Cuts.{cut_piece_finishes}

-- ---- what a plan lists

pub plan_is_filled : PlanIsFilled
plan_is_filled g table q k d within =
    let there : All (λ c. c < chunk_count g) (plan_of g table q) = All-filter (is_needed g table q) (λ c. c < chunk_count g) (all_chunks g) (range_below (chunk_count g)) in
    let needed : All (λ c. is_needed g table q c ≡ true) (plan_of g table q) = filter_passes (is_needed g table q) (all_chunks g) in
    (there k d within, filled_part _ _ _ (needed k d within))
  where
    filled_part : (filled areas ids : Bool) → (filled && areas && ids) ≡ true → filled ≡ true
    filled_part true areas ids h = refl
    filled_part false areas ids h = h

pub plan_ascends : PlanAscends
plan_ascends g table q = AllPairs-filter (λ a b. a < b) (is_needed g table q) (all_chunks g) (range_ascends (chunk_count g))

-- ---- the least of some radii

least_below : (a : ℕ) (rs : List ℕ) → fold min a rs ≤ a
least_below a [] = omega arith
least_below a (r ∷ rs) = omega (arith, least_below (min a r) rs, min-le_left a r)

least_below_each : (a : ℕ) (rs : List ℕ) → Each (λ r. fold min a rs ≤ r) rs
least_below_each a [] = tt
least_below_each a (r ∷ rs) = (omega (arith, least_below (min a r) rs, min-le_right a r), least_below_each (min a r) rs)

-- ---- what is not refused

square_up : (r s : ℕ) → r ≤ s → pos (r * r) ≤ℤ square (pos s)
square_up r s h =
    let low : pos r ≤ℤ pos s = omega (arith, ints, h) in
    let from_0 : pos 0 ≤ℤ pos r = omega (arith, ints) in
    let to_0 : pos 0 ≤ℤ pos s = omega (arith, ints) in
    omega (arith, ints, mul_mono (pos r) (pos s) (pos r) low from_0, mul_mono (pos r) (pos s) (pos s) low to_0)

not_above : (limit : ℤ) (r : ℕ) (refusal : Radius) (b : Bool) → int_lt (pos (r * r)) limit ≡ b → (if b then Some refusal else None) ≡ None → limit ≤ℤ pos (r * r)
not_above limit r refusal true e h = absurd (cc h)
not_above limit r refusal false e h = grind (arith, ints)

within_radius : (limit : ℤ) (r : ℕ) → above_radius limit r ≡ None → limit ≤ℤ pos (r * r)
within_radius limit r h = not_above limit r (record { asked = limit; allowed = pos (r * r) }) (int_lt (pos (r * r)) limit) refl h

reach_each : (g : Partition) (limit : ℤ) (r : ℕ) (chunks : List ℕ) → limit ≤ℤ pos (r * r) → Each (λ s. r ≤ s) (map (overlap_at g) chunks) → Each (Reaches g (Pairs limit)) chunks
reach_each g limit r [] h k = tt
reach_each g limit r (c ∷ chunks) h k = (omega (arith, ints, h, square_up r (overlap_at g c) k.0), reach_each g limit r chunks h k.1)

reach_chunks : (g : Partition) (limit : ℤ) (chunks : List ℕ) → above_radius limit (overlap_of g chunks) ≡ None → Each (Reaches g (Pairs limit)) chunks
reach_chunks g limit [] h = tt
reach_chunks g limit (c ∷ chunks) h =
    let r : ℕ = overlap_of g (c ∷ chunks) in
    reach_each g limit r (c ∷ chunks) (within_radius limit r h)
    (least_below (overlap_at g c) (map (overlap_at g) chunks), least_below_each (overlap_at g c) (map (overlap_at g) chunks))

reach_by : (g : Partition) (shape : Shape) (chunks : List ℕ) → radius_by shape (overlap_of g chunks) ≡ None → Each (Reaches g shape) chunks
reach_by g Rows chunks h = each_always (Reaches g Rows) (λ c. tt) chunks
reach_by g (Pairs limit) chunks h = reach_chunks g limit chunks h
reach_by g (Groups keys) chunks h = each_always (Reaches g (Groups keys)) (λ c. tt) chunks

pub radius_reaches_over : RadiusReachesOver
radius_reaches_over g shape chunks h = All-from_recursion (Reaches g shape) chunks (reach_by g shape chunks h)

pub radius_reaches : RadiusReaches
radius_reaches g table q h = radius_reaches_over g q.shape (plan_of g table q) h

-- ---- what a piece over a plan finishes as

pub plan_finishes : PlanFinishes
plan_finishes columns g table q view sky at up sound tested h =
    cut_piece_finishes columns g table q (plan_of g table q) view sound up h
    ∙ plan_covers columns g table q sky at sound tested ∙ answer_is_flat g table q sky at
