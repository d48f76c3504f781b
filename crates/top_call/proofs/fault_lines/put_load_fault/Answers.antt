use Rattle.top_call.proofs.FaultLines.{reported_of}
use Rattle.top_call.proofs.fault_lines.put_load_fault.Goals as goal

pub returns-in-Header : goal.returns-in-Header
returns-in-Header g c = reported_of _ _ _ _ _ c.in-Header.is c.put_numbered.ensures

pub returns-in-FieldCount : goal.returns-in-FieldCount
returns-in-FieldCount g c = reported_of _ _ _ _ _ c.in-FieldCount.is c.put_in_row.ensures

pub returns-in-Number : goal.returns-in-Number
returns-in-Number g c = reported_of _ _ _ _ _ c.in-Number.is c.put_in_row-in-Number.ensures

pub returns-in-Range : goal.returns-in-Range
returns-in-Range g c = reported_of _ _ _ _ _ c.in-Range.is c.put_range.ensures

pub returns-in-Length : goal.returns-in-Length
returns-in-Length g c = reported_of _ _ _ _ _ c.in-Length.is c.put_numbered-in-Length.ensures

pub returns-in-Repeated : goal.returns-in-Repeated
returns-in-Repeated g c = reported_of _ _ _ _ _ c.in-Repeated.is c.put_repeated.ensures

pub returns-in-TooManyRows : goal.returns-in-TooManyRows
returns-in-TooManyRows g c = reported_of _ _ _ _ _ c.in-TooManyRows.is c.put.ensures
