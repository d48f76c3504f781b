use Rattle.std.proofs.Common.{◌≡◌, [], ap, arith}
use Rattle.std.proofs.lemmas.List.{get_or_read}
use Rattle.partial_groups.specs.declared.group_entry.GroupEntry.{GroupEntry}
use Rattle.partial_groups.specs.Sharing.{group_entry_in}
use Rattle.partial_groups.proofs.Increasing.{Grew, MayGrow, add_of, became_of, grew, may_grow}
use Rattle.partial_groups.proofs.combine.add_to.Goals as goal

-- what may be done with the two groups
may : (c : goal.After-width) → MayGrow c.args.tallies.now.items (group_entry_in c.args.groups.now.items c.args.place) c.args.more.now.items c.args.other.now
may c = may_grow c.args.tallies.now.items c.args.groups.now.items c.args.place c.args.more.now.items c.args.other.now c.requires.alike c.requires.at c.requires.key c.requires.mine c.requires.own c.requires.there c.requires.small

from : (c : goal.After-width) → c.index.result.now.from ≡ (group_entry_in c.args.groups.now.items c.args.place).from
from c = ap (λ (m : GroupEntry). m.from) (get_or_read c.args.groups.now.items c.args.place c.index.result.now c.requires.at c.index.ensures (record { key = []; rows = 0; from = 0; to = 0 }))

pub add_parts-requires-clause-b_there : goal.add_parts-requires-clause-b_there
add_parts-requires-clause-b_there c = omega (arith, from c, c.width.ensures, (may c).wide, (may c).at.order, (may c).at.there)

pub add_parts-requires-clause-small : goal.add_parts-requires-clause-small
add_parts-requires-clause-small c = add_of c.args.tallies.now.items c.args.more.now.items (group_entry_in c.args.groups.now.items c.args.place) c.args.other.now c.index.result.now.from c.width.result (from c) c.width.ensures (may c).wide (may c).at c.requires.there (may c).add

pub add_rows-requires-clause-few : goal.add_rows-requires-clause-few
add_rows-requires-clause-few c = (may_grow c.args.tallies.now.items c.args.groups.now.items c.args.place c.args.more.now.items c.args.other.now c.requires.alike c.requires.at c.requires.key c.requires.mine c.requires.own c.requires.there c.requires.small).rows

grown : (c : goal.After-add_rows) → Grew c.args.tallies.now.items c.args.groups.now.items c.args.more.now.items c.args.other.now c.add_parts.new.tallies.items c.add_rows.new.groups.items
grown c =
    let m : GroupEntry = group_entry_in c.args.groups.now.items c.args.place in
    let may : MayGrow c.args.tallies.now.items m c.args.more.now.items c.args.other.now = may_grow c.args.tallies.now.items c.args.groups.now.items c.args.place c.args.more.now.items c.args.other.now c.requires.alike c.requires.at c.requires.key c.requires.mine c.requires.own c.requires.there c.requires.small in
    let from : c.index.result.now.from ≡ m.from = ap (λ (m : GroupEntry). m.from) (get_or_read c.args.groups.now.items c.args.place c.index.result.now c.requires.at c.index.ensures (record { key = []; rows = 0; from = 0; to = 0 })) in
    grew c.args.tallies.now.items c.args.groups.now.items c.args.place c.args.more.now.items c.args.other.now c.requires.alike c.requires.at c.requires.key c.requires.mine c.requires.own c.requires.there c.requires.small c.add_parts.new.tallies.items c.add_rows.new.groups.items
    (became_of c.args.tallies.now.items c.add_parts.new.tallies.items c.args.more.now.items m c.args.other.now c.index.result.now.from c.width.result from c.width.ensures may.wide may.at c.requires.there c.add_parts.ensures.items c.add_parts.ensures.sums c.add_parts.ensures.rest)
    c.add_rows.ensures.items

pub returns-clause-mine : goal.returns-clause-mine
returns-clause-mine c = (grown c).addable

pub returns-clause-own : goal.returns-clause-own
returns-clause-own c = (grown c).own

pub returns-clause-put : goal.returns-clause-put
returns-clause-put c = (grown c).put
