use Rattle.scan_history.proofs.Checking.{checked_all, run_small, serves_rightly}
use Rattle.scan_history.proofs.checker.check.Goals as goal

pub tally_of-requires : goal.tally_of-requires
tally_of-requires c =
    let run = checked_all c.args.journal.now.ring c.args.journal.now.lines c.loop-position.replay c.loop-position.position c.loop-position.invariant (rw c.as_slice-lines.ensures at c.loop-position-test.false) in
    rw c.as_slice-lines.ensures (run_small c.args.journal.now c.requires run)

pub returns-clause-right : goal.returns-clause-right
returns-clause-right c = checked_all c.args.journal.now.ring c.args.journal.now.lines c.loop-position.replay c.loop-position.position c.loop-position.invariant (rw c.as_slice-lines.ensures at c.loop-position-test.false)

pub returns-clause-served : goal.returns-clause-served
returns-clause-served c =
    serves_rightly c.args.journal.now (checked_all c.args.journal.now.ring c.args.journal.now.lines c.loop-position.replay c.loop-position.position c.loop-position.invariant (rw c.as_slice-lines.ensures at c.loop-position-test.false))
