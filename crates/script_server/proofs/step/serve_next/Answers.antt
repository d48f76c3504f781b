use Rattle.std.proofs.Common.{refl}
use Rattle.request_loop.proofs.Stepping.{step_long, step_memory, step_nothing, step_open, step_text}
use Rattle.script_server.specs.Answers.{IsAnswer, basis_of}
use Rattle.script_server.proofs.step.serve_next.Goals as goal

pub returns-in-Text : goal.returns-in-Text
returns-in-Text g c =
    step_text (IsAnswer (basis_of c.args.world.now c.args.workers)) _ _ _ _ c.in-Text.text _ _ c.in-Text.ensures
    (rw c.as_slice.ensures.value at c.put_reply-put.ensures) c.after_reply.ensures

pub returns-in-Long : goal.returns-in-Long
returns-in-Long g c = step_long (IsAnswer (basis_of c.args.world.now c.args.workers)) _ _ _ _ _ _ c.in-Long.ensures c.send_line.ensures c.after_reply-in-Long.ensures

pub returns-in-Memory : goal.returns-in-Memory
returns-in-Memory g c = step_memory (IsAnswer (basis_of c.args.world.now c.args.workers)) _ _ _ _ _ _ c.in-Memory.ensures c.send_line-in-Memory.ensures c.after_reply-in-Memory.ensures

pub returns-in-Open : goal.returns-in-Open
returns-in-Open g c = step_open (IsAnswer (basis_of c.args.world.now c.args.workers)) _ _ _ _ _ _ c.in-Open.ensures c.send_line-in-Open.ensures c.after_last.ensures

pub returns-in-Nothing : goal.returns-in-Nothing
returns-in-Nothing g c = step_nothing (IsAnswer (basis_of c.args.world.now c.args.workers)) _ _ _ c.requires.sent c.in-Nothing.ensures

pub returns-in-Failed : goal.returns-in-Failed
returns-in-Failed g c = record { fault = c.in-Failed.ensures; same = refl }
