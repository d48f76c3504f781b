use Rattle.top_call.proofs.trace.trace_queries.Goals as goal

pub returns-in-Ok : goal.returns-in-Ok
returns-in-Ok g c =
    c.write_trace-outcome.ensures c.args.workers c.args.world.now c.args.script.now
    (rw c.as_slice.ensures.value c.in-Ok.ensures.fit) (rw c.as_slice.ensures.value c.in-Ok.ensures.trace)
