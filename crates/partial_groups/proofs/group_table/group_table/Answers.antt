use Rattle.std.proofs.Common.{List, ap, map, sym, ◌∙◌}
use Rattle.answer_rules.specs.declared.rewritten.MergeItem.{MergeItem}
use Rattle.answer_rules.specs.Finish.{merged_out}
use Rattle.partial_groups.specs.declared.group_entry.GroupEntry.{GroupEntry}
use Rattle.partial_groups.specs.Groups.{group_of}
use Rattle.partial_groups.proofs.Totalling.{all_mergeable}
use Rattle.partial_groups.proofs.group_table.group_table.Goals as goal

pub tested_table-requires-clause-may : goal.tested_table-requires-clause-may
tested_table-requires-clause-may c =
    all_mergeable c.args.keys.now c.args.merge.now.items c.args.tallies.now c.args.groups.items c.requires.there c.requires.may
    (ap (λ (is : List MergeItem). merged_out is (map (group_of c.args.tallies.now) c.args.groups.items)) (sym c.as_slice-2.ensures)
    ∙ ap (λ (ms : List GroupEntry). merged_out c.as_slice-2.result.now (map (group_of c.args.tallies.now) ms)) (sym c.as_slice.ensures.value)
    ∙ sym c.first_out.ensures ∙ c.in-None.is)
