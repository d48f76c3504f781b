use Rattle.std.proofs.Common.{◌++◌, List, ap, subst, sym, ◌∙◌}
use Rattle.answer_rules.specs.Parts.{Part}
use Rattle.partial_groups.specs.Adding.{parts_of}
use Rattle.partial_groups.specs.Groups.{AreAddable, gathered_of}
use Rattle.partial_groups.specs.Sharing.{HaveOwnParts}
use Rattle.partial_groups.proofs.Gaining.{alone_addable, alone_gathered_of, alone_own}
use Rattle.partial_groups.proofs.combine.put_behind.Goals as goal

pub returns-clause-mine : goal.returns-clause-mine
returns-clause-mine c =
    subst (λ (ps : List Part). AreAddable ps c.put_alone.new.out.items) (sym c.put_alone.ensures.parts)
    (subst (AreAddable (c.args.tallies.now.items ++ parts_of c.args.more.now.items c.args.other)) (sym c.put_alone.ensures.groups)
    (alone_addable c.args.tallies.now.items c.args.groups.now.items c.args.more.now.items c.args.other c.requires.alike c.requires.small c.requires.mine c.requires.there))

pub returns-clause-own : goal.returns-clause-own
returns-clause-own c = subst HaveOwnParts (sym c.put_alone.ensures.groups) (alone_own c.args.tallies.now.items c.args.groups.now.items c.args.other c.requires.mine c.requires.own)

pub returns-clause-put : goal.returns-clause-put
returns-clause-put c =
    ap (λ (ps : List Part). gathered_of ps c.put_alone.new.out.items) c.put_alone.ensures.parts
    ∙ ap (gathered_of (c.args.tallies.now.items ++ parts_of c.args.more.now.items c.args.other)) c.put_alone.ensures.groups
    ∙ alone_gathered_of c.args.tallies.now.items c.args.groups.now.items c.args.more.now.items c.args.other c.requires.alike c.requires.small c.requires.mine c.requires.there
