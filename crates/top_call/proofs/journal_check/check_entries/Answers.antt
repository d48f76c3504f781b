use Rattle.top_call.proofs.Checks.{check_written}
use Rattle.top_call.proofs.journal_check.check_entries.Goals as goal

pub returns-in-Ok : goal.returns-in-Ok
returns-in-Ok g c =
    check_written c.args.journal.now _ _ _ c.in-Ok.ensures.right c.in-Ok.ensures.served
    (c.write_tally.ensures c.args.journal.now c.in-Ok.ensures.tally)
