use Rattle.sky_io.proofs.Writes.{wrote_two}
use Rattle.top_call.proofs.fault_lines.put_table_fault.Goals as goal

pub returns-in-Done : goal.returns-in-Done
returns-in-Done g c = wrote_two _ _ _ c.args.table.now _ _ c.in-Done.ensures c.put_load_fault.ensures
