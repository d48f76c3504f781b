use Rattle.std.proofs.Common.{length}
use Rattle.scan_core.proofs.Rest.{rest_paid}
use Rattle.scan_core.proofs.slot_table.SlotTable.deliver.Goals as goal

pub invariant_of-self : goal.invariant_of-self
invariant_of-self c = rest_paid c.args.queries.now c.args.lost.now c.self.inside.slots.items c.pay_all.new.slots.items (length c.args.queries.now) c.pay_all.ensures c.self.invariant
