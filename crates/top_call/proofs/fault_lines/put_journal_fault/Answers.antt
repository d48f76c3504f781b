use Rattle.top_call.proofs.JournalLines.{reported_of}
use Rattle.top_call.proofs.fault_lines.put_journal_fault.Goals as goal

pub returns-in-NotAStep : goal.returns-in-NotAStep
returns-in-NotAStep g c = reported_of _ _ _ _ _ c.in-NotAStep.is c.put_numbered-in-NotAStep.ensures
