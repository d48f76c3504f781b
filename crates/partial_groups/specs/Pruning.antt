-- Top-n pruning of counted groups: only groups before a cutoff are made, if n groups are before it.
use Rattle.std.specs.Prelude.{◌≡◌, ℕ, suc, ◌+◌, ◌==◌, nat_lt, pos, ℤ, Bool, true, cond, ◌||◌, ◌&&◌, List, [], ◌∷◌, Some}
use Rattle.sql_bound.specs.declared.expr.BoundCol.{BoundCol}
use Rattle.answer_rules.specs.declared.rewritten.MergeItem.{MergeItem}
use Rattle.answer_rules.specs.declared.rewritten.MergeKey.{MergeKey}
use Rattle.answer_rules.specs.declared.rewritten.MergePlan.{MergePlan}
use Rattle.answer_rules.specs.declared.value.Value.TheVariants.{Whole}
use Rattle.answer_rules.specs.Finish.{merge_down, merged_key, merged_order, merged_value}
use Rattle.partial_groups.specs.declared.cutoff.Cutoff.{Cutoff}
use Rattle.partial_groups.specs.Ungrouped.{counted_group}

-- the group of n rows at position i is before the cutoff: it has more rows, or as many at a lower position
abbrev pub is_before_cutoff : Cutoff → ℕ → ℕ → Bool
is_before_cutoff c n i = nat_lt c.count n || (c.count == n && nat_lt i c.position)

-- the count, or 0 if its group is not before the cutoff
abbrev pub count_before : Cutoff → ℕ → ℕ → ℕ
count_before c n i = cond (is_before_cutoff c n i) n 0

-- these counts, which begin at position i, with 0 for each whose group is not before the cutoff
abbrev pub counts_before : Cutoff → ℕ → List ℕ → List ℕ
counts_before c i [] = []
counts_before c i (n ∷ ns) = count_before c n i ∷ counts_before c (suc i) ns

-- 1 for a count that has a group, and 0 for the count 0
abbrev pub one_group : ℕ → ℕ
one_group n = cond (n == 0) 0 1

-- the number of groups that these counts have
abbrev pub group_count : List ℕ → ℕ
group_count [] = 0
group_count (n ∷ ns) = one_group n + group_count ns

-- the item is the number of rows of each group of counted rows
abbrev pub CountsRows : List Bool → MergeItem → Type 0
CountsRows counted i = (keys : List BoundCol) (n : ℕ) (value : ℤ) → merged_value keys (counted_group counted n value) i ≡ Whole (pos n)

-- groups of counted rows are ordered by the number of their rows
abbrev pub IsRowCount : List Bool → List MergeItem → MergeKey → Type 0
IsRowCount counted items key =
    (keys : List BoundCol) (n : ℕ) (value : ℤ) → merged_key keys items (counted_group counted n value) key ≡ Some (pos n)

-- The merge puts groups with more rows before those with fewer.
pub record IsByRowCount (counted : List Bool) (merge : MergePlan) : Type 0 where
  pub down : merge_down merge.order ≡ true
  pub count : (keys : List BoundCol) (n : ℕ) (value : ℤ)
      → merged_order keys merge.items (counted_group counted n value) merge.order ≡ Some (pos n)
