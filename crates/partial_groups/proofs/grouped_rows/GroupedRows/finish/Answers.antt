use Rattle.std.proofs.Common.{◌≡◌, ◌≤◌, [], ◌∷◌, arith, length, refl, subst, sym}
use Rattle.std.specs.List.{All}
use Rattle.answer_rules.specs.Finish.{groups_merged}
use Rattle.partial_groups.specs.Groups.{Gathered}
use Rattle.partial_groups.specs.Merging.{MayMerge}
use Rattle.partial_groups.specs.Ungrouped.{row_groups, values_in}
use Rattle.partial_groups.proofs.Combinable.{may_group}
use Rattle.partial_groups.proofs.grouped_rows.GroupedRows.finish.Goals as goal

none_there : (gs : Gathered) → length gs ≤ 0 → gs ≡ []
none_there [] l = refl
none_there (g ∷ gs) l = absurd (omega (arith, l))

pub rows_table-requires-clause-none : goal.rows_table-requires-clause-none
rows_table-requires-clause-none c = none_there c.self.inside.groups (omega (arith, c.len.ensures.most, c.if-len-eq0.true))

pub rows_table-requires-clause-alike : goal.rows_table-requires-clause-alike
rows_table-requires-clause-alike c = may_group c.self.inside.groups (row_groups c.self.inside.counted.items (values_in c.self.inside.lists.items)) c.self.invariant

pub rows_table-requires-clause-may : goal.rows_table-requires-clause-may
rows_table-requires-clause-may c = subst (λ (gs : Gathered). All (λ g. All (MayMerge c.args.keys.now g) c.args.merge.now.items) (groups_merged c.args.keys.now gs)) (sym c.self.view_is) c.requires

pub whole_table-requires-clause-alike : goal.whole_table-requires-clause-alike
whole_table-requires-clause-alike c = may_group c.self.inside.groups (row_groups c.self.inside.counted.items (values_in c.self.inside.lists.items)) c.self.invariant

pub whole_table-requires-clause-may : goal.whole_table-requires-clause-may
whole_table-requires-clause-may c = subst (λ (gs : Gathered). All (λ g. All (MayMerge c.args.keys.now g) c.args.merge.now.items) (groups_merged c.args.keys.now gs)) (sym c.self.view_is) c.requires
