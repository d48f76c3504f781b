use Rattle.std.proofs.Common.{arith}
use Rattle.column_vectors.proofs.PickedColumns.{lane_count}
use Rattle.column_vectors.proofs.value_list.ValueList.chosen.Goals as goal

pub chosen-requires-clause-there : goal.chosen-requires-clause-there
chosen-requires-clause-there g c =
    omega (arith, c.requires.there, lane_count c.self.inside.source c.in-Lane.lane c.args.self.now c.in-Lane.is c.self.view_is)
