use Rattle.scan_core.proofs.slot_table.SlotTable.running.Goals as goal

pub returns : goal.returns
returns c = rw (← c.self.view_is) c.running_in.ensures
