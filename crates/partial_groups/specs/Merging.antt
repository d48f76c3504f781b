-- When the items of a merge can be computed for a group.
use Rattle.std.specs.Prelude.{◌≡◌, ◌<◌, true, length, List, IfSome, All}
use Rattle.std.specs.List.{AllByRecursion}
use Rattle.sky_vector.specs.Numbers.{is_query_number}
use Rattle.sql_bound.specs.declared.expr.BoundCol.{BoundCol}
use Rattle.sql_bound.specs.declared.expr.BoundExpr.{BoundExpr}
use Rattle.value_rules.specs.Keys.{key_cell}
use Rattle.value_rules.specs.Ranges.{IsInRangeAt}
use Rattle.value_rules.specs.Terms.{term_of}
use Rattle.value_rules.specs.Widths.{IsOfSize, most}
use Rattle.answer_rules.specs.declared.rewritten.MergeItem.{MergeItem}
use Rattle.answer_rules.specs.declared.rewritten.MergeItem.TheVariants.{Column, OfKeys, Count, Sum, Min, Max, Avg}
use Rattle.answer_rules.specs.Finish.{merged_totals, part_at}
use Rattle.answer_rules.specs.Gather.{Partial}
use Rattle.answer_rules.specs.Keys.{Key}
use Rattle.answer_rules.specs.Parts.{Part, Sums}
use Rattle.partial_groups.specs.declared.group_entry.GroupEntry.{GroupEntry}
use Rattle.partial_groups.specs.Groups.{IsThere, group_of}

-- The expression can be computed on the key: there is a value for each key column, and each intermediate result is
-- small.
pub record IsOnKey (keys : List BoundCol) (key : Key) (e : BoundExpr) : Type 0 where
  pub long : length key ≡ length keys
  pub range : IsInRangeAt (key_cell keys key) (term_of e)

-- the item can be merged: a least or a greatest value is small, and an average that has a total counts at least one
-- value
abbrev pub MayMerge : List BoundCol → Partial Key Sums → MergeItem → Type 0
MayMerge keys g (Column n) = Unit {0}
MayMerge keys g (OfKeys e) = IsOnKey keys g.key e
MayMerge keys g (Count n) = Unit {0}
MayMerge keys g (Sum n) = Unit {0}
MayMerge keys g (Min n) = IsOfSize most (part_at g n).value
MayMerge keys g (Max n) = IsOfSize most (part_at g n).value
MayMerge keys g (Avg n count) = IfSome (part_at g n).value (λ t. 0 < (part_at g count).seen)

-- no total of the group that the item uses is out of range
abbrev pub IsTested : Partial Key Sums → MergeItem → Type 0
IsTested g i = AllByRecursion (λ t. is_query_number t ≡ true) (merged_totals g i)

-- A group of an aggregation table whose totals are checked and for which each item can be merged.
pub record IsMergeable (keys : List BoundCol) (items : List MergeItem) (parts : List Part) (m : GroupEntry) : Type 0 where
  pub there : IsThere (length parts) m
  pub may : All (MayMerge keys (group_of parts m)) items
  pub tested : All (IsTested (group_of parts m)) items
