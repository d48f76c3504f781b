-- Groups that ascend by their keys are what they add up to, and their lines are apart.
use Rattle.std.proofs.Common.{◌≡◌, true, false, List, [], ◌∷◌, map, refl, Ordering, Less, Equal, Greater, is_eq}
use Rattle.std.specs.Ordering.{on, ordering_then}
use Rattle.std.proofs.lemmas.Cmp.{on_total}
use Rattle.sql_bound.specs.declared.expr.BoundCol.{BoundCol}
use Rattle.answer_rules.specs.declared.rewritten.MergePlan.{MergePlan}
use Rattle.answer_rules.specs.Finish.{groups_merged, merged_line}
use Rattle.answer_rules.specs.Gather.{Rise}
use Rattle.answer_rules.specs.Groups.{GroupLine, group_order}
use Rattle.answer_rules.specs.Keeps.{AreApart}
use Rattle.answer_rules.specs.Keys.{key_order}
use Rattle.answer_rules.specs.Parts.{Part, add_own_sums}
use Rattle.answer_rules.proofs.Apart.{each_map}
use Rattle.answer_rules.proofs.Gathering.{rise_gather}
use Rattle.answer_rules.proofs.Sorting.{Rises, apart_by_ids}
use Rattle.answer_rules.proofs.Totals.{key_total}
use Rattle.partial_groups.specs.declared.group_entry.GroupEntry.{GroupEntry}
use Rattle.partial_groups.specs.Groups.{Gathered, gathered_of, group_of}

-- the groups of an aggregation table ascend
pub gathered_of_rises : (parts : List Part) (groups : List GroupEntry) → Rise key_order (gathered_of parts groups)
gathered_of_rises parts groups = rise_gather key_order add_own_sums key_total (map (group_of parts) groups)

-- so do they with the one group without keys
pub merged_rise : (keys : List BoundCol) (gs : Gathered) → Rise key_order gs → Rise key_order (groups_merged keys gs)
merged_rise [] [] h = (tt, tt)
merged_rise [] (g ∷ gs) h = h
merged_rise (c ∷ keys) gs h = h

-- ---- lines

lines_rise : (keys : List BoundCol) (merge : MergePlan) (gs : Gathered) → Rise key_order gs → Rises (on (λ (l : GroupLine). l.key) key_order) (map (merged_line keys merge) gs)
lines_rise keys merge [] h = tt
lines_rise keys merge (g ∷ gs) h =
    (each_map (λ l. on (λ (l : GroupLine). l.key) key_order (merged_line keys merge g) l ≡ Less) (merged_line keys merge) gs h.0, lines_rise keys merge gs h.1)

tie_step : (a b c : Ordering) → is_eq (ordering_then a (ordering_then b c)) ≡ true → c ≡ Equal
tie_step Less b c h = let bad : false ≡ true = h in cc
tie_step Greater b c h = let bad : false ≡ true = h in cc
tie_step Equal Less c h = let bad : false ≡ true = h in cc
tie_step Equal Greater c h = let bad : false ≡ true = h in cc
tie_step Equal Equal Less h = let bad : false ≡ true = h in cc
tie_step Equal Equal Greater h = let bad : false ≡ true = h in cc
tie_step Equal Equal Equal h = refl

-- the lines of groups that ascend are apart
pub lines_apart : (keys : List BoundCol) (merge : MergePlan) (gs : Gathered) → Rise key_order gs → AreApart group_order (map (merged_line keys merge) gs)
lines_apart keys merge gs h =
    apart_by_ids group_order (on (λ (l : GroupLine). l.key) key_order) (on_total (λ (l : GroupLine). l.key) key_total) (λ x y e. tie_step _ _ _ e) (map (merged_line keys merge) gs)
    (lines_rise keys merge gs h)
