use Rattle.top_call.proofs.ScriptLines.{reported_of}
use Rattle.top_call.proofs.script_lines.put_script_fault.Goals as goal

pub returns-in-UnknownQuery : goal.returns-in-UnknownQuery
returns-in-UnknownQuery g c = reported_of _ _ _ _ _ c.in-UnknownQuery.is c.put_unknown.ensures

pub returns-in-LineTooLong : goal.returns-in-LineTooLong
returns-in-LineTooLong g c = reported_of _ _ _ _ _ c.in-LineTooLong.is c.put_numbered.ensures

pub returns-in-TooManyQueries : goal.returns-in-TooManyQueries
returns-in-TooManyQueries g c = reported_of _ _ _ _ _ c.in-TooManyQueries.is c.put_numbered-in-TooManyQueries.ensures
