-- Lines that were sorted are the lines of the answer in order.
use Rattle.std.proofs.Common.{◌≡◌, ℕ, zero, suc, List, [], ◌∷◌, ◌++◌, length, take, map, Option, Some, None, refl, sym, ap, subst, ◌∙◌, IsPermutation, IsSorted}
use Rattle.std.specs.List.Sorted.{IsSplitAround}
use Rattle.std.specs.List.{All, AllByRecursion as Each}
use Rattle.std.specs.Prelude.{false}
use Rattle.std.specs.Cmp.{IsTotalOrder}
use Rattle.std.specs.Ordering.{is_lt}
use Rattle.std.proofs.lemmas.Cmp.{int_cmp_total, nat_cmp_total, on_total, then_total}
use Rattle.std.proofs.lemmas.List.{take-map}
use Rattle.std.proofs.lemmas.List.Elements.{All-from_recursion, recursion_from_All}
use Rattle.std.proofs.lemmas.List.Sorted.{IsPermutation-map, All-permutation, length_permutation}
use Rattle.sql_bound.specs.declared.expr.BoundCol.{BoundCol}
use Rattle.answer_rules.specs.declared.rewritten.MergeItem.{MergeItem}
use Rattle.answer_rules.specs.declared.rewritten.MergePlan.{MergePlan}
use Rattle.answer_rules.specs.Finish.{merged_line}
use Rattle.answer_rules.specs.Gather.{Rise}
use Rattle.answer_rules.specs.Groups.{GroupLine, group_order}
use Rattle.answer_rules.specs.InOrder.{first, in_order}
use Rattle.answer_rules.specs.Keeps.{AreApart, KeepsFirst}
use Rattle.answer_rules.specs.Keys.{key_order}
use Rattle.answer_rules.specs.Parts.{Part}
use Rattle.answer_rules.proofs.Apart.{each_map}
use Rattle.answer_rules.proofs.Ascending.{sorted_ascends}
use Rattle.answer_rules.proofs.Keeping.{first_kept}
use Rattle.answer_rules.proofs.KeptTwice.{keeps_map}
use Rattle.answer_rules.proofs.Sorting.{Ascends, only_order}
use Rattle.answer_rules.proofs.Totals.{group_total, key_total}
use Rattle.partial_groups.specs.declared.line.Line.{Line}
use Rattle.partial_groups.specs.declared.group_entry.GroupEntry.{GroupEntry}
use Rattle.partial_groups.specs.Groups.{group_of}
use Rattle.partial_groups.specs.Lines.{line_by, line_of, line_order, line_values}
use Rattle.partial_groups.specs.Merging.{IsMergeable}
use Rattle.partial_groups.proofs.Firsts.{apart_kept, split_keeps}
use Rattle.partial_groups.proofs.Rise.{lines_apart}

line_total : IsTotalOrder line_order
line_total = then_total (on_total (λ (l : Line). l.class) nat_cmp_total) (then_total (on_total (λ (l : Line). l.value) int_cmp_total) (on_total (λ (l : Line). l.group.key) key_total))

-- the lines of the groups, their values computed
made_lines : (parts : List Part) (keys : List BoundCol) (merge : MergePlan) (groups : List GroupEntry) → map (line_of parts keys merge.items) (map (line_by parts keys merge) groups) ≡ map (merged_line keys merge) (map (group_of parts) groups)
made_lines parts keys merge [] = refl
made_lines parts keys merge (m ∷ ms) = ap (λ l. merged_line keys merge (group_of parts m) ∷ l) (made_lines parts keys merge ms)

lines_ascend : (parts : List Part) (keys : List BoundCol) (items : List MergeItem) (lines : List Line) → Ascends line_order lines → Ascends group_order (map (line_of parts keys items) lines)
lines_ascend parts keys items [] h = tt
lines_ascend parts keys items (l ∷ ls) h = (each_map (λ y. is_lt (group_order y (line_of parts keys items l)) ≡ false) (line_of parts keys items) ls h.0, lines_ascend parts keys items ls h.1)

pub made_are : (parts : List Part) (keys : List BoundCol) (merge : MergePlan) (groups : List GroupEntry) (lines : List Line) → lines ≡ map (line_by parts keys merge) groups → map (line_of parts keys merge.items) lines ≡ map (merged_line keys merge) (map (group_of parts) groups)
made_are parts keys merge groups lines e = ap (map (line_of parts keys merge.items)) e ∙ made_lines parts keys merge groups

-- sorted lines are the lines in order
sorted_lines : (parts : List Part) (keys : List BoundCol) (items : List MergeItem) (lines sorted : List Line) → AreApart group_order (map (line_of parts keys items) lines) → IsPermutation lines sorted → IsSorted line_order sorted → map (line_of parts keys items) sorted ≡ in_order group_order (map (line_of parts keys items) lines)
sorted_lines parts keys items lines sorted apart p s =
    only_order group_order group_total (map (line_of parts keys items) lines) (map (line_of parts keys items) sorted) apart
    (IsPermutation-map (line_of parts keys items) lines sorted p)
    (lines_ascend parts keys items sorted (sorted_ascends line_order line_total sorted s))

first_map : {X Y : Type 0} (f : X → Y) (limit : Option ℕ) (xs : List X) → map f (first limit xs) ≡ first limit (map f xs)
first_map f None xs = refl
first_map f (Some n) xs = sym (take-map f n xs)

values_of : (parts : List Part) (keys : List BoundCol) (items : List MergeItem) (lines : List Line) → map (line_values parts keys items) lines ≡ map (λ (r : GroupLine). r.values) (map (line_of parts keys items) lines)
values_of parts keys items [] = refl
values_of parts keys items (l ∷ ls) = ap (λ r. line_values parts keys items l ∷ r) (values_of parts keys items ls)

-- the values of the first of them are those of the first in order
pub first_lines : (parts : List Part) (keys : List BoundCol) (items : List MergeItem) (limit : Option ℕ) (lines sorted : List Line) → AreApart group_order (map (line_of parts keys items) lines) → IsPermutation lines sorted → IsSorted line_order sorted → map (line_values parts keys items) (first limit sorted) ≡ map (λ (r : GroupLine). r.values) (first limit (in_order group_order (map (line_of parts keys items) lines)))
first_lines parts keys items limit lines sorted apart p s =
    values_of parts keys items (first limit sorted)
    ∙ ap (map (λ (r : GroupLine). r.values)) (first_map (line_of parts keys items) limit sorted ∙ ap (first limit) (sorted_lines parts keys items lines sorted apart p s))

take_whole : {X : Type 0} (n : ℕ) (xs : List X) → length xs ≡ n → take n xs ≡ xs
take_whole n xs e = ap (λ m. take m xs) (sym e) ∙ whole xs
  where
    whole : {X : Type 0} (xs : List X) → take (length xs) xs ≡ xs
    whole [] = refl
    whole (x ∷ xs) = ap (λ l. x ∷ l) (whole xs)

-- so are the values of those before the one at place n, when they are sorted
pub some_lines : (parts : List Part) (keys : List BoundCol) (items : List MergeItem) (n : ℕ) (lines front : List Line) (x : Line) (back sorted : List Line) → AreApart group_order (map (line_of parts keys items) lines) → IsPermutation lines (front ++ x ∷ back) → length front ≡ n → IsSplitAround line_order front x back → IsPermutation front sorted → IsSorted line_order sorted → map (line_values parts keys items) sorted ≡ map (λ (r : GroupLine). r.values) (first (Some n) (in_order group_order (map (line_of parts keys items) lines)))
some_lines parts keys items n lines front x back sorted apart p l split q s =
    let kept : KeepsFirst group_order (Some n) (map (line_of parts keys items) lines) (map (line_of parts keys items) front) =
    keeps_map line_order group_order (line_of parts keys items) (λ a b. refl) (Some n) lines front (split_keeps line_order line_total n lines front x back p l split)
    in
    let all : take n sorted ≡ sorted = take_whole n sorted (length_permutation front sorted q ∙ l) in
    ap (map (line_values parts keys items)) (sym all)
    ∙ first_lines parts keys items (Some n) front sorted (apart_kept group_order (Some n) (map (line_of parts keys items) lines) (map (line_of parts keys items) front) apart kept) q s
    ∙ ap (map (λ (r : GroupLine). r.values)) (first_kept group_order group_total (Some n) (map (line_of parts keys items) lines) (map (line_of parts keys items) front) apart kept)

-- the lines of groups that ascend are apart
pub made_apart : (parts : List Part) (keys : List BoundCol) (merge : MergePlan) (groups : List GroupEntry) (lines : List Line) → lines ≡ map (line_by parts keys merge) groups → Rise key_order (map (group_of parts) groups) → AreApart group_order (map (line_of parts keys merge.items) lines)
made_apart parts keys merge groups lines e r =
    subst (λ (ls : List GroupLine). AreApart group_order ls) (sym (made_are parts keys merge groups lines e)) (lines_apart keys merge (map (group_of parts) groups) r)

-- ---- what holds of each line

each_front : {X : Type 0} (P : X → Type 0) (xs ys : List X) → Each P (xs ++ ys) → Each P xs
each_front P [] ys h = tt
each_front P (x ∷ xs) ys h = (h.0, each_front P xs ys h.1)

each_first : {X : Type 0} (P : X → Type 0) (limit : Option ℕ) (xs : List X) → Each P xs → Each P (first limit xs)
each_first P None xs h = h
each_first P (Some zero) xs h = tt
each_first P (Some (suc n)) [] h = tt
each_first P (Some (suc n)) (x ∷ xs) h = (h.0, each_first P (Some n) xs h.1)

pub first_hold : {X : Type 0} (P : X → Type 0) (limit : Option ℕ) (xs sorted : List X) → All P xs → IsPermutation xs sorted → All P (first limit sorted)
first_hold P limit xs sorted h p = All-from_recursion P _ (each_first P limit sorted (recursion_from_All P sorted (All-permutation P xs sorted p h)))

-- and of those before the one at a place
pub front_hold : {X : Type 0} (P : X → Type 0) (xs front : List X) (x : X) (back sorted : List X) → All P xs → IsPermutation xs (front ++ x ∷ back) → IsPermutation front sorted → All P sorted
front_hold P xs front x back sorted h p q =
    All-permutation P front sorted q (All-from_recursion P front (each_front P front (x ∷ back) (recursion_from_All P _ (All-permutation P xs (front ++ x ∷ back) p h))))

-- of the line of a group that can be merged each item can be merged
pub made_mergeable : (parts : List Part) (keys : List BoundCol) (merge : MergePlan) (groups : List GroupEntry) (lines : List Line) → lines ≡ map (line_by parts keys merge) groups → All (IsMergeable keys merge.items parts) groups → All (λ l. IsMergeable keys merge.items parts l.group) lines
made_mergeable parts keys merge groups lines e h =
    let P : Line → Type 0 = λ l. IsMergeable keys merge.items parts l.group in
    subst (λ (ls : List Line). All P ls) (sym e) (All-from_recursion P _ (each_map P (line_by parts keys merge) groups (recursion_from_All (IsMergeable keys merge.items parts) groups h)))
