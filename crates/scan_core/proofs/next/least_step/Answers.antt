use Rattle.std.proofs.Common.{rules, sym, ◌∙◌}
use Rattle.scan_core.proofs.Rest.{least_skips, least_ends}
use Rattle.scan_core.proofs.next.least_step.Goals as goal

pub loop-q-init : goal.loop-q-init
loop-q-init c = (search rules, least_skips c.args.ring c.args.place c.args.ring c.args.slots.now.items c.args.from (search rules) (search rules) c.requires.rest.before)

pub returns : goal.returns
returns c = sym (least_ends c.args.ring c.args.place c.loop-q.best c.args.slots.now.items c.loop-q.q c.loop-q.invariant.0 (λ q d a l. c.requires.rest.after q d (search rules) (search rules))) ∙ c.loop-q.invariant.1
