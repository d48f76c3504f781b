use Rattle.std.proofs.Common.{map, subst, sym}
use Rattle.query_ends.specs.Ends.{kind_of}
use Rattle.script_server.specs.Answers.{basis_of}
use Rattle.script_server.specs.Steps.{AnswersScript}
use Rattle.script_server.proofs.Answering.{script_answered}
use Rattle.script_server.proofs.answer.run_script.Goals as goal

pub returns-in-Ok : goal.returns-in-Ok
returns-in-Ok g c =
    subst (λ r. AnswersScript (basis_of c.args.world.now c.args.workers) c.args.script.now (g.K.Sink.state c.args.sink.now) (g.K.Sink.state c.put_answer.new.sink) r) (sym c.answered.ensures)
    (script_answered (basis_of c.args.world.now c.args.workers) c.args.script.now (map kind_of c.in-Ok.ends.items) _ _ c.put_answer.result c.in-Ok.ensures.fit
    (rw (c.as_slice.ensures.value, c.store.ensures) at c.put_answer.ensures))
