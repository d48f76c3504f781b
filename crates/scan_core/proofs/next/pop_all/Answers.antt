use Rattle.std.proofs.Common.{rules, subst}
use Rattle.scan_core.specs.Taking.{PoppedAll}
use Rattle.scan_core.proofs.Rest.{popped_all, popped_first}
use Rattle.scan_core.proofs.next.pop_all.Goals as goal

pub loop-q-init : goal.loop-q-init
loop-q-init c = popped_first c.requires.rest c.args.chunk

pub returns : goal.returns
returns c = popped_all c.requires.rest c.args.chunk c.loop-q.slots.items (subst (PoppedAll c.args.chunk c.args.slots.now.items c.loop-q.slots.items) (search rules) c.loop-q.invariant)
