use Rattle.chunk_group_scan.proofs.GroupStates.{states_more}
use Rattle.chunk_group_scan.proofs.states.fill.Goals as goal

pub loop-i-preserved : goal.loop-i-preserved
loop-i-preserved c = λ objects there are.
    states_more objects c.args.items.now c.loop-i.i c.args.from c.args.to c.index-items-i.result c.index-arguments-i.result c.args.arguments.now c.state.result c.loop-i.states.items c.push.new.states.items
    c.loop-i-test.true c.index-items-i.is c.index-arguments-i.is there are c.state.ensures c.in_ok-push.ensures (c.loop-i.invariant objects there are)
