use Rattle.scan_tests.proofs.machine.begin_late_query.Goals as goal

pub serve_late_query-requires-clause-flight : goal.serve_late_query-requires-clause-flight
serve_late_query-requires-clause-flight g c = c.attach-2.ensures.flying 1 c.in-Task.first c.in-Task.ensures.flies
