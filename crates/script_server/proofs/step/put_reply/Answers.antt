use Rattle.std.proofs.Common.{subst}
use Rattle.request_loop.specs.Replies.{memory_line}
use Rattle.request_loop.specs.Steps.{Sent}
use Rattle.request_loop.proofs.Stepping.{reply_memory, reply_sent, reply_torn}
use Rattle.script_server.specs.Answers.{IsAnswer, basis_of}
use Rattle.script_server.proofs.step.put_reply.Goals as goal

pub returns-in-Done : goal.returns-in-Done
returns-in-Done g c =
    reply_sent (IsAnswer (basis_of c.args.world.now c.args.workers)) c.args.request.now _ _ _ _ c.requires.short c.in-Done.ensures c.flush_out.ensures

pub returns-in-Failed : goal.returns-in-Failed
returns-in-Failed g c = reply_torn (IsAnswer (basis_of c.args.world.now c.args.workers)) c.args.request.now _ _ c.requires.short c.in-Failed.ensures

pub returns-in-Memory : goal.returns-in-Memory
returns-in-Memory g c =
    reply_memory (IsAnswer (basis_of c.args.world.now c.args.workers)) c.args.request.now _ _ _
    (subst (λ s. Sent s (g.K.Sink.state c.send_line.new.sink) memory_line c.send_line.result) c.in-Memory.ensures c.send_line.ensures)
