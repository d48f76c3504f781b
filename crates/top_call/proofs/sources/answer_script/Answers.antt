use Rattle.top_call.proofs.sources.answer_script.Goals as goal

pub returns-in-Ok : goal.returns-in-Ok
returns-in-Ok g c = c.write_answers.ensures c.args.crew.now.workers (rw c.as_slice.ensures.value c.in-Ok.ensures.fit)
