use Rattle.std.proofs.Common.{rules, ◌≡◌, ◌≢◌}
use Rattle.scan_core.specs.Answers.{IfTask}
use Rattle.scan_tests.proofs.Takes.{if_task_so, if_task_both}
use Rattle.scan_tests.proofs.moments.serve.Goals as goal

pub deliver-requires : goal.deliver-requires
deliver-requires g c = record { flight = c.cancel_at.ensures.flying 2 c.in-Task.second c.in-Task.ensures.flies }

pub deliver_taken-requires-clause-flight : goal.deliver_taken-requires-clause-flight
deliver_taken-requires-clause-flight g c =
    let same : c.ticket.result ≡ c.in-Task.second.ticket = search rules in
    let apart : IfTask c.args.first (λ task. task.ticket ≢ c.in-Task.second.ticket) =
    if_task_so c.args.first (λ task so. rw (← same) (so c.if-has_ticket.false)) c.has_ticket.ensures in
    if_task_both c.args.first (λ task other flight. c.cancel_at-2.ensures.flying 1 task (c.deliver.ensures.flying 1 task other (c.cancel_at.ensures.flying 1 task (c.take.ensures.flying 1 task flight)))) apart c.requires.flight
