use Rattle.scan_history.proofs.Checking.{Checked}
use Rattle.scan_history.proofs.checker.check.Given as goal

abbrev pub invariant-loop-position : goal.invariant-loop-position
invariant-loop-position l = Checked l.journal.ring l.journal.lines l.replay l.position
