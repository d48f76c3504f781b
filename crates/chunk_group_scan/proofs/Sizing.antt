-- The parts of some rows are as small as the rows allow.
use Rattle.std.proofs.Common.{◌≡◌, refl, ap, subst, ℕ, suc, ◌+◌, ◌-◌, ◌*◌, ◌≤◌, arith, ℤ, ◌+ℤ◌, nat_abs, int_le, Bool, true, false, List, [], ◌∷◌, ◌++◌, length, map, Option, None, Some, option_to_list, drop, slice_range}
use Rattle.std.specs.Prelude.{All, if◌then◌else◌}
use Rattle.std.specs.List.{AllByRecursion as Each, flat_map, list_all}
use Rattle.std.proofs.Math.Nat.{suc-mul}
use Rattle.std.proofs.lemmas.Bool.{and_parts}
use Rattle.std.proofs.lemmas.Int.{ints}
use Rattle.std.proofs.lemmas.List.Edits.{length-between}
use Rattle.std.proofs.lemmas.List.Elements.{All-drop, All-from_recursion, All-take, recursion_from_All}
use Rattle.table_rules.specs.Objects.{Obj, IsRow}
use Rattle.sql_bound.specs.declared.expr.BoundExpr.{BoundExpr}
use Rattle.value_rules.specs.Sound.{has_col, is_sound_expr}
use Rattle.value_rules.specs.Values.{row, value_of}
use Rattle.value_rules.specs.Widths.{IsOfSize, most}
use Rattle.answer_rules.specs.declared.rewritten.ChunkItem.{ChunkItem}
use Rattle.answer_rules.specs.declared.rewritten.ChunkItem.TheVariants.{Plain, Count, CountOf, Sum, Min, Max}
use Rattle.answer_rules.specs.Aggregates.{all_joined, greater, joined_to, lesser, sum_two, values_on as numbers_on}
use Rattle.answer_rules.specs.Parts.{part_over}
use Rattle.answer_rules.specs.Small.{IsSmallPart}
use Rattle.chunk_group_scan.specs.Grouped.{is_sound_total}
use Rattle.chunk_filter.specs.Values.{IsReady, values_on}
use Rattle.chunk_group_scan.specs.States.{argument_of}
use Rattle.chunk_group_scan.proofs.Joining.{Fits, numbers_few, numbers_fit}
use Rattle.chunk_filter.proofs.Values.{values_sized, ready_values}

-- the numbers of an expression on rows are those of its values
pub numbers_on_rows : (e : BoundExpr) (objects : List Obj) → flat_map option_to_list (values_on e objects) ≡ numbers_on e (map row objects)
numbers_on_rows e [] = refl
numbers_on_rows e (o ∷ objects) = ap (λ l. option_to_list (value_of e (row o)) ++ l) (numbers_on_rows e objects)

numbers_sized : (columns : ℕ) (e : BoundExpr) (objects : List Obj) → is_sound_expr (has_col columns false) e ≡ true → Each IsRow objects → Each Fits (numbers_on e (map row objects))
numbers_sized columns e objects sound rows =
    subst (Each Fits) (numbers_on_rows e objects) (numbers_fit (values_on e objects) (values_sized columns e objects sound rows))

few : (e : BoundExpr) (objects : List Obj) → length (numbers_on e (map row objects)) ≤ length objects
few e objects = omega (arith, ap length (numbers_on_rows e objects), numbers_few (values_on e objects), count objects)
  where
    count : (os : List Obj) → length (values_on e os) ≡ length os
    count [] = refl
    count (o ∷ os) = ap suc (count os)

count_rows : (objects : List Obj) → length (map row objects) ≡ length objects
count_rows [] = refl
count_rows (o ∷ objects) = ap suc (count_rows objects)

-- ---- what they come to

sum_size : (a b : ℤ) → nat_abs (a +ℤ b) ≤ nat_abs a + nat_abs b
sum_size a b = omega (arith, ints)

total_step : (z : ℤ) (n : ℕ) (rest : Option ℤ) → Fits z → IsOfSize (n * most) rest → nat_abs (joined_to sum_two z rest) ≤ suc n * most
total_step z n None h k = omega (arith, suc-mul n most, h)
total_step z n (Some y) h k = omega (arith, suc-mul n most, h, k, sum_size z y)

total_small : (vs : List ℤ) → Each Fits vs → IsOfSize (length vs * most) (all_joined sum_two vs)
total_small [] h = tt
total_small (z ∷ vs) h = total_step z (length vs) (all_joined sum_two vs) h.0 (total_small vs h.1)

either : (b : Bool) (x y : ℤ) → Fits x → Fits y → Fits (if b then x else y)
either true x y h k = h
either false x y h k = k

least_step : (z : ℤ) (rest : Option ℤ) → Fits z → IsOfSize most rest → Fits (joined_to lesser z rest)
least_step z None h k = h
least_step z (Some y) h k = either (int_le z y) z y h k

least_small : (vs : List ℤ) → Each Fits vs → IsOfSize most (all_joined lesser vs)
least_small [] h = tt
least_small (z ∷ vs) h = least_step z (all_joined lesser vs) h.0 (least_small vs h.1)

greatest_step : (z : ℤ) (rest : Option ℤ) → Fits z → IsOfSize most rest → Fits (joined_to greater z rest)
greatest_step z None h k = h
greatest_step z (Some y) h k = either (int_le z y) y z k h

greatest_small : (vs : List ℤ) → Each Fits vs → IsOfSize most (all_joined greater vs)
greatest_small [] h = tt
greatest_small (z ∷ vs) h = greatest_step z (all_joined greater vs) h.0 (greatest_small vs h.1)

-- ---- the parts

part_small : (columns : ℕ) (objects : List Obj) (i : ChunkItem) → is_sound_total columns i ≡ true → Each IsRow objects → IsSmallPart (length objects) (part_over (map row objects) i)
part_small columns objects (Plain e) sound rows = record { seen = omega arith; value = tt }
part_small columns objects Count sound rows = record { seen = omega (arith, count_rows objects); value = tt }
part_small columns objects (CountOf e) sound rows = record { seen = few e objects; value = tt }
part_small columns objects (Sum e) sound rows = record { seen = few e objects; value = total_small _ (numbers_sized columns e objects sound rows) }
part_small columns objects (Min e) sound rows = record { seen = few e objects; value = least_small _ (numbers_sized columns e objects sound rows) }
part_small columns objects (Max e) sound rows = record { seen = few e objects; value = greatest_small _ (numbers_sized columns e objects sound rows) }

pub parts_small : (columns : ℕ) (objects : List Obj) (items : List ChunkItem) → list_all (is_sound_total columns) items ≡ true → Each IsRow objects
    → Each (IsSmallPart (length objects)) (map (part_over (map row objects)) items)
parts_small columns objects [] sound rows = tt
parts_small columns objects (i ∷ items) sound rows =
    let both = and_parts (is_sound_total columns i) (list_all (is_sound_total columns) items) sound in
    (part_small columns objects i both.0 rows, parts_small columns objects items both.1 rows)

ready_one : (columns n : ℕ) (objects : List Obj) (i : ChunkItem) → is_sound_total columns i ≡ true → Each IsRow objects → n ≤ length objects → IsReady n (argument_of objects i)
ready_one columns n objects (Plain e) sound rows few = tt
ready_one columns n objects Count sound rows few = tt
ready_one columns n objects (CountOf e) sound rows few = ready_values columns n e objects sound rows few
ready_one columns n objects (Sum e) sound rows few = ready_values columns n e objects sound rows few
ready_one columns n objects (Min e) sound rows few = ready_values columns n e objects sound rows few
ready_one columns n objects (Max e) sound rows few = ready_values columns n e objects sound rows few

-- the values of aggregates on some rows are there up to any place among these
ready_each : (columns n : ℕ) (objects : List Obj) (items : List ChunkItem) → list_all (is_sound_total columns) items ≡ true → Each IsRow objects → n ≤ length objects
    → Each (IsReady n) (map (argument_of objects) items)
ready_each columns n objects [] sound rows few = tt
ready_each columns n objects (i ∷ items) sound rows few =
    let both = and_parts (is_sound_total columns i) (list_all (is_sound_total columns) items) sound in
    (ready_one columns n objects i both.0 rows few, ready_each columns n objects items both.1 rows few)

pub ready : (columns n : ℕ) (objects : List Obj) (items : List ChunkItem) → list_all (is_sound_total columns) items ≡ true → All IsRow objects → n ≤ length objects
    → All (IsReady n) (map (argument_of objects) items)
ready columns n objects items sound rows few =
    All-from_recursion (IsReady n) (map (argument_of objects) items) (ready_each columns n objects items sound (recursion_from_All IsRow objects rows) few)

-- the parts of some of the rows
pub parts_between : (columns from to : ℕ) (objects : List Obj) (items : List ChunkItem) → list_all (is_sound_total columns) items ≡ true → All IsRow objects → to ≤ length objects
    → Each (IsSmallPart (to - from)) (map (part_over (map row (slice_range objects from to))) items)
parts_between columns from to objects items sound rows there =
    subst (λ n. Each (IsSmallPart n) (map (part_over (map row (slice_range objects from to))) items)) (length-between objects from to there)
    (parts_small columns (slice_range objects from to) items sound (recursion_from_All IsRow (slice_range objects from to) (All-take IsRow (to - from) (drop from objects) (All-drop IsRow from objects rows))))
