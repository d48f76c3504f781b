use Rattle.scan_tests.proofs.Takes.{if_task_so}
use Rattle.scan_tests.proofs.moments.finish.Goals as goal

pub deliver_taken-requires-clause-flight : goal.deliver_taken-requires-clause-flight
deliver_taken-requires-clause-flight g c = if_task_so c.take-third.result (λ task flies. c.cancel_at.ensures.flying 1 task flies) c.take-third.ensures.flies
