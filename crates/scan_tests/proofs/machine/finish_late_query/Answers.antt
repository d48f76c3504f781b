use Rattle.scan_tests.proofs.machine.finish_late_query.Goals as goal

pub deliver-requires : goal.deliver-requires
deliver-requires g c = record { flight = c.take-2.ensures.flying 1 c.in-Task.third c.in-Task.ensures.flies }
