use Rattle.std.proofs.Common.{rules}
use Rattle.scan_core.specs.Replays.{runs_among}
use Rattle.scan_core.proofs.Losing.{all_more, all_stop, all_done}
use Rattle.scan_core.proofs.replay.may_lose_all.Goals as goal

pub returns-then-not-may_lose : goal.returns-then-not-may_lose
returns-then-not-may_lose c = λ d. all_stop (runs_among c.args.slots.now.items c.args.taken.now d) c.args.lost.now c.loop-q.q-index c.may_lose.result c.loop-q-test.true (c.may_lose.ensures d) (search rules) (c.loop-q.invariant d)

pub loop-q-preserved : goal.loop-q-preserved
loop-q-preserved c = λ d. all_more (runs_among c.args.slots.now.items c.args.taken.now d) c.args.lost.now c.loop-q.q-index c.may_lose.result c.loop-q-test.true (c.may_lose.ensures d) (search rules) (c.loop-q.invariant d)

pub returns : goal.returns
returns c = λ d. all_done (runs_among c.args.slots.now.items c.args.taken.now d) c.args.lost.now c.loop-q.q-index (search rules) (c.loop-q.invariant d)
