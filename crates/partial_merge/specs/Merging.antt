-- When a piece can be finished.
use Rattle.std.specs.Prelude.{List, All}
use Rattle.sql_bound.specs.declared.query.Shape.{Shape}
use Rattle.sql_bound.specs.declared.query.Shape.TheVariants.{Rows, Pairs, Groups}
use Rattle.answer_rules.specs.declared.rewritten.MergeItem.{MergeItem}
use Rattle.answer_rules.specs.declared.rewritten.MergePlan.{MergePlan}
use Rattle.answer_rules.specs.Finish.{groups_merged}
use Rattle.answer_rules.specs.Keeps.{AreApart}
use Rattle.answer_rules.specs.Pieces.{PieceView, OfRows, OfGroups}
use Rattle.answer_rules.specs.Ranks.{row_order}
use Rattle.partial_groups.specs.Groups.{Gathered}
use Rattle.partial_groups.specs.Merging.{MayMerge}

-- each item can be merged for each group, and the merge is of groups
abbrev pub CanMerge : Shape → List MergeItem → Gathered → Type 0
CanMerge Rows items gs = ⊥
CanMerge (Pairs limit) items gs = ⊥
CanMerge (Groups keys) items gs = All (λ g. All (MayMerge keys g) items) (groups_merged keys gs)

-- a piece can be finished: no two rows tie, and for groups each item can be merged
abbrev pub CanFinish : MergePlan → PieceView → Type 0
CanFinish merge (OfRows pushed rows) = AreApart row_order rows
CanFinish merge (OfGroups gs) = CanMerge merge.shape merge.items gs
