use Rattle.std.proofs.Common.{refl}
use Rattle.top_call.proofs.Checks.{check_over, read_fault}
use Rattle.top_call.proofs.journal_check.check_journal.Goals as goal

pub returns-in-Ok : goal.returns-in-Ok
returns-in-Ok g c = check_over c.args.text.now c.in-Ok.journal _ _ _ c.in-Ok.ensures.ok c.check_read.ensures

pub returns-in-Err-Bad : goal.returns-in-Err-Bad
returns-in-Err-Bad g c =
    let bad = rw c.in-Err-Bad.field-0-is at c.in-Err-Bad.ensures.bad in
    rw c.in-Err-Bad.fault-is (read_fault c.args.text.now c.in-Err-Bad.fault bad, refl)
