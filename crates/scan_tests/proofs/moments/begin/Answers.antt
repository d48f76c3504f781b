use Rattle.scan_tests.proofs.Takes.{if_task_so}
use Rattle.scan_tests.proofs.moments.begin.Goals as goal

pub serve-requires-clause-flight : goal.serve-requires-clause-flight
serve-requires-clause-flight g c =
    if_task_so c.take-first.result (λ task flies. c.cancel_at-4.ensures.flying 1 task (c.attach-2.ensures.flying 1 task (c.cancel_at-3.ensures.flying 1 task flies))) c.take-first.ensures.flies
