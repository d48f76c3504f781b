use Rattle.std.proofs.Common.{ap, arith, length}
use Rattle.column_vectors.proofs.PickedColumns.{lane_count, column_count}
use Rattle.column_vectors.proofs.value_list.ValueList.count.Goals as goal

pub count-requires-clause-there : goal.count-requires-clause-there
count-requires-clause-there c =
    omega (arith, ap length c.as_slice.ensures.value, c.requires.there, lane_count c.self.inside.source c.in-Lane.lane c.args.self.now c.in-Lane.is c.self.view_is)

pub returns-in-Column : goal.returns-in-Column
returns-in-Column c =
    column_count c.self.inside.source c.in-Column.field-0 c.args.self.now c.args.from c.args.to c.in-Column.is c.self.view_is c.requires.order c.requires.there
