-- What the values between two places come to is what the rows there do.
use Rattle.std.proofs.Common.{◌≡◌, ◌∙◌, refl, sym, ap, ℕ, ◌+◌, ◌-◌, ◌<◌, ◌≤◌, arith, ℤ, List, [], ◌∷◌, ◌++◌, length, map, get_or, take, drop, Option, option_to_list, slice_range}
use Rattle.std.specs.List.{flat_map}
use Rattle.std.proofs.Math.Seq.{take-add}
use Rattle.std.proofs.lemmas.List.{drop-map, get_or-map, length-map, map-append, take-map, take_more}
use Rattle.std.proofs.lemmas.List.Edits.{length-between}
use Rattle.table_rules.specs.Objects.{Obj}
use Rattle.sql_bound.specs.declared.expr.BoundExpr.{BoundExpr}
use Rattle.value_rules.specs.Values.{row, value_of}
use Rattle.answer_rules.specs.declared.rewritten.ChunkItem.{ChunkItem}
use Rattle.answer_rules.specs.declared.rewritten.ChunkItem.TheVariants.{Plain, Count, CountOf, Sum, Min, Max}
use Rattle.answer_rules.specs.declared.way.Way.TheVariants.{Added, Least, Greatest}
use Rattle.answer_rules.specs.Aggregates.{values_on as numbers_on}
use Rattle.answer_rules.specs.Parts.{Part, count_part, part_by, part_over}
use Rattle.chunk_group_scan.specs.States.{argument_of, numbers_between, state_of}
use Rattle.chunk_filter.specs.Values.{values_on}
use Rattle.chunk_group_scan.proofs.Sizing.{numbers_on_rows}

between_values : (e : BoundExpr) (objects : List Obj) (from to : ℕ) → flat_map option_to_list (slice_range (values_on e objects) from to) ≡ numbers_on e (map row (slice_range objects from to))
between_values e objects from to =
    ap (λ l. flat_map option_to_list (take (to - from) l)) (drop-map (λ o. value_of e (row o)) from objects)
    ∙ (ap (flat_map option_to_list) (take-map (λ o. value_of e (row o)) (to - from) (drop from objects))
    ∙ numbers_on_rows e (slice_range objects from to))

rows_between : (objects : List Obj) (from to : ℕ) → to ≤ length objects → to - from ≡ length (map row (slice_range objects from to))
rows_between objects from to there = omega (arith, length-between objects from to there, length-map (slice_range objects from to) row)

-- the part of the values between two places is that of the rows there
pub state_between : (objects : List Obj) (i : ChunkItem) (from to : ℕ) → to ≤ length objects
    → state_of i (to - from) (numbers_between (argument_of objects i) from to) ≡ part_over (map row (slice_range objects from to)) i
state_between objects (Plain e) from to there = refl
state_between objects Count from to there = ap count_part (rows_between objects from to there)
state_between objects (CountOf e) from to there = ap (λ l. count_part (length l)) (between_values e objects from to)
state_between objects (Sum e) from to there = ap (part_by Added) (between_values e objects from to)
state_between objects (Min e) from to there = ap (part_by Least) (between_values e objects from to)
state_between objects (Max e) from to there = ap (part_by Greatest) (between_values e objects from to)

-- the rows before a place, and those from there up to another one
pub take_between : {X : Type 0} (xs : List X) (from to : ℕ) → from ≤ to → take to xs ≡ take from xs ++ slice_range xs from to
take_between xs from to order = ap (λ n. take n xs) (omega (arith, order)) ∙ take-add from (to - from) xs

-- a part more behind
pub states_more : (objects : List Obj) (items : List ChunkItem) (i from to : ℕ) (item : ChunkItem) (argument : Option (List (Option ℤ))) (arguments : List (Option (List (Option ℤ))))
    (part : Part) (old new : List Part) → i < length items → item ≡ get_or items i item → argument ≡ get_or arguments i argument → to ≤ length objects
    → arguments ≡ map (argument_of objects) items → part ≡ state_of item (to - from) (numbers_between argument from to)
    → new ≡ old ++ part ∷ [] → old ≡ map (part_over (map row (slice_range objects from to))) (take i items)
    → new ≡ map (part_over (map row (slice_range objects from to))) (take (i + 1) items)
states_more objects items i from to item argument arguments part old new low own its there are is put before =
    let whole = part_over (map row (slice_range objects from to)) in
    let told : argument ≡ argument_of objects item =
    its ∙ (ap (λ l. get_or l i argument) are ∙ (get_or-map (argument_of objects) items i item argument low ∙ ap (argument_of objects) (sym own))) in
    put
    ∙ (ap (λ l. l ++ part ∷ []) before
    ∙ (ap (λ p. map whole (take i items) ++ p ∷ []) (is ∙ (ap (λ w. state_of item (to - from) (numbers_between w from to)) told ∙ (state_between objects item from to there ∙ ap whole own)))
    ∙ (sym (map-append whole (take i items) (get_or items i item ∷ [])) ∙ ap (map whole) (sym (take_more items i item low)))))
