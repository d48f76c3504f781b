use Rattle.top_call.proofs.work.do_script.Goals as goal

pub returns-in-Answer : goal.returns-in-Answer
returns-in-Answer g c = rw c.in-Answer.is (c.write_ends.ensures c.in-Answer.workers c.run_session-ends.ensures.fit)

pub returns-in-ByClass : goal.returns-in-ByClass
returns-in-ByClass g c = rw c.in-ByClass.is (c.write_ends-in-ByClass.ensures c.in-ByClass.workers c.run_classes-ends.ensures.fit)
