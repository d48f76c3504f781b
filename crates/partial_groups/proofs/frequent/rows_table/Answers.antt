use Rattle.std.proofs.Common.{◌≡◌, ◌∙◌, ◌++◌, ℤ, Bool, List, ap, subst, sym}
use Rattle.std.specs.Global.{Vec}
use Rattle.std.specs.List.{All}
use Rattle.answer_rules.specs.Finish.{groups_merged}
use Rattle.answer_rules.specs.Gather.{gather}
use Rattle.answer_rules.specs.Keys.{key_order}
use Rattle.answer_rules.specs.Parts.{add_own_sums}
use Rattle.partial_groups.specs.Groups.{Gathered, MayGather}
use Rattle.partial_groups.specs.Merging.{MayMerge}
use Rattle.partial_groups.specs.Ungrouped.{row_groups, values_in}
use Rattle.partial_groups.proofs.frequent.rows_table.Goals as goal

pub frequent_of-requires-clause-alike : goal.frequent_of-requires-clause-alike
frequent_of-requires-clause-alike c =
    subst (λ (gs : Gathered). MayGather gs (row_groups c.as_slice.result.now (values_in c.as_slice-2.result.now))) c.requires.none
    (subst (λ (k : List Bool). MayGather c.args.groups (row_groups k (values_in c.as_slice-2.result.now))) (sym c.as_slice.ensures.value)
    (subst (λ (ls : List (Vec ℤ)). MayGather c.args.groups (row_groups c.args.counted.now.items (values_in ls))) (sym c.as_slice-2.ensures.value) c.requires.alike))

pub frequent_of-requires-clause-may : goal.frequent_of-requires-clause-may
frequent_of-requires-clause-may c =
    let is : gather key_order add_own_sums (row_groups c.as_slice.result.now (values_in c.as_slice-2.result.now)) ≡ gather key_order add_own_sums (c.args.groups ++ row_groups c.args.counted.now.items (values_in c.args.lists.items)) =
    ap (λ (k : List Bool). gather key_order add_own_sums (row_groups k (values_in c.as_slice-2.result.now))) c.as_slice.ensures.value
    ∙ ap (λ (ls : List (Vec ℤ)). gather key_order add_own_sums (row_groups c.args.counted.now.items (values_in ls))) c.as_slice-2.ensures.value
    ∙ ap (λ (gs : Gathered). gather key_order add_own_sums (gs ++ row_groups c.args.counted.now.items (values_in c.args.lists.items))) (sym c.requires.none)
    in
    subst (λ (gs : Gathered). All (λ g. All (MayMerge c.args.keys.now g) c.args.merge.now.items) (groups_merged c.args.keys.now gs)) (sym is) c.requires.may
