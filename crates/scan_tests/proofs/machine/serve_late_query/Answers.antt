use Rattle.std.proofs.Common.{rules, ◌≢◌}
use Rattle.scan_tests.proofs.machine.serve_late_query.Goals as goal

pub deliver-requires-2 : goal.deliver-requires-2
deliver-requires-2 g c =
    let apart : c.args.first.ticket ≢ c.in-Task.second.ticket = search rules in
    record { flight = c.is_not_yet.ensures.flying 1 c.args.first (c.deliver.ensures.flying 1 c.args.first apart (c.take.ensures.flying 1 c.args.first c.requires.flight)) }
