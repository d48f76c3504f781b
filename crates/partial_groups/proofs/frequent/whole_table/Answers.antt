use Rattle.std.proofs.Common.{◌≡◌, ◌∙◌, ◌++◌, Bool, List, ap, subst, sym}
use Rattle.std.specs.List.{All}
use Rattle.answer_rules.specs.Finish.{groups_merged}
use Rattle.answer_rules.specs.Gather.{gather}
use Rattle.answer_rules.specs.Keys.{key_order}
use Rattle.answer_rules.specs.Parts.{add_own_sums}
use Rattle.partial_groups.specs.Groups.{Gathered, MayGather}
use Rattle.partial_groups.specs.Merging.{MayMerge}
use Rattle.partial_groups.specs.Ungrouped.{row_groups, values_in}
use Rattle.partial_groups.proofs.frequent.whole_table.Goals as goal

pub grouped-requires : goal.grouped-requires
grouped-requires c =
    subst (λ (k : List Bool). MayGather c.args.groups (row_groups k (values_in c.args.lists.items))) (sym c.as_slice.ensures.value) c.requires.alike

pub finish-requires : goal.finish-requires
finish-requires c =
    let is : c.in_ok-whole.whole ≡ gather key_order add_own_sums (c.args.groups ++ row_groups c.args.counted.now.items (values_in c.args.lists.items)) =
    c.in_ok-whole.ensures ∙ ap (λ (k : List Bool). gather key_order add_own_sums (c.args.groups ++ row_groups k (values_in c.args.lists.items))) c.as_slice.ensures.value in
    subst (λ (gs : Gathered). All (λ g. All (MayMerge c.args.keys.now g) c.args.merge.now.items) (groups_merged c.args.keys.now gs)) (sym is) c.requires.may
