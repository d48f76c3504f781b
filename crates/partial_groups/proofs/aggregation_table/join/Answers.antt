use Rattle.std.proofs.Common.{◌++◌, List, ap, subst, sym, ◌∙◌}
use Rattle.answer_rules.specs.Gather.{gather}
use Rattle.answer_rules.specs.Keys.{key_order}
use Rattle.answer_rules.specs.Parts.{Part, add_own_sums}
use Rattle.partial_groups.specs.Groups.{AreAddable, MayGather, gathered_of}
use Rattle.partial_groups.specs.declared.group_entry.GroupEntry.{GroupEntry}
use Rattle.partial_groups.specs.Sharing.{HaveOwnParts}
use Rattle.partial_groups.proofs.aggregation_table.join.Goals as goal

pub combine_all-requires-clause-mine : goal.combine_all-requires-clause-mine
combine_all-requires-clause-mine c =
    subst (λ (ps : List Part). AreAddable ps c.make_room.new.groups.items) (sym c.make_room.ensures.tallies)
    (subst (λ (ms : List GroupEntry). AreAddable c.args.tallies.now.items ms) (sym c.make_room.ensures.groups) c.requires.mine)

pub combine_all-requires-clause-own : goal.combine_all-requires-clause-own
combine_all-requires-clause-own c = subst HaveOwnParts (sym c.make_room.ensures.groups) c.requires.own

pub combine_all-requires-clause-alike : goal.combine_all-requires-clause-alike
combine_all-requires-clause-alike c =
    subst (λ (ps : List Part). MayGather (gathered_of ps c.make_room.new.groups.items) (gathered_of c.args.more.items c.args.others.items)) (sym c.make_room.ensures.tallies)
    (subst (λ (ms : List GroupEntry). MayGather (gathered_of c.args.tallies.now.items ms) (gathered_of c.args.more.items c.args.others.items)) (sym c.make_room.ensures.groups) c.requires.alike)

pub returns-clause-joined : goal.returns-clause-joined
returns-clause-joined c =
    c.combine_all.ensures.joined
    ∙ ap (λ (ps : List Part). gather key_order add_own_sums (gathered_of ps c.make_room.new.groups.items ++ gathered_of c.args.more.items c.args.others.items)) c.make_room.ensures.tallies
    ∙ ap (λ (ms : List GroupEntry). gather key_order add_own_sums (gathered_of c.args.tallies.now.items ms ++ gathered_of c.args.more.items c.args.others.items)) c.make_room.ensures.groups
