use Rattle.std.proofs.Common.{◌≡◌, List, ap, map, length, subst, sym, ◌∙◌}
use Rattle.std.specs.List.{All}
use Rattle.answer_rules.specs.Finish.{groups_merged}
use Rattle.answer_rules.specs.Gather.{Rise}
use Rattle.answer_rules.specs.Keys.{key_order}
use Rattle.answer_rules.specs.Parts.{Part}
use Rattle.partial_groups.specs.Groups.{Gathered, IsThere, group_of}
use Rattle.partial_groups.specs.Merging.{MayMerge}
use Rattle.partial_groups.proofs.Rise.{gathered_of_rises, merged_rise}
use Rattle.partial_groups.proofs.aggregation_table.AggregationTable.finish.Goals as goal

-- the groups that are left are those of the table, with the one of no rows if there are no keys
groups_are : (c : goal.After-as_slice) → map (group_of c.as_slice.result.now) c.put_keyless_group.new.groups.items ≡ groups_merged c.args.keys.now c.args.self
groups_are c =
    ap (λ (ps : List Part). map (group_of ps) c.put_keyless_group.new.groups.items) c.as_slice.ensures.value
    ∙ c.in_ok-put_keyless_group.ensures.groups c.consolidate.new.tallies.items
    ∙ ap (groups_merged c.args.keys.now) (c.in_ok-consolidate.ensures.consolidated ∙ c.self.view_is)

pub group_table-requires-clause-there : goal.group_table-requires-clause-there
group_table-requires-clause-there c =
    subst (λ (ps : List Part). All (IsThere (length ps)) c.put_keyless_group.new.groups.items) (sym c.as_slice.ensures.value)
    (c.in_ok-put_keyless_group.ensures.there (length c.consolidate.new.tallies.items) c.consolidate.ensures.addable.there)

pub group_table-requires-clause-may : goal.group_table-requires-clause-may
group_table-requires-clause-may c = subst (λ (gs : Gathered). All (λ g. All (MayMerge c.args.keys.now g) c.args.merge.now.items) gs) (sym (groups_are c)) c.requires

pub group_table-requires-clause-rise : goal.group_table-requires-clause-rise
group_table-requires-clause-rise c =
    subst (Rise key_order) (sym (groups_are c))
    (merged_rise c.args.keys.now c.args.self (subst (Rise key_order) c.self.view_is (gathered_of_rises c.self.inside.tallies.items c.self.inside.groups.items)))
