use Rattle.std.proofs.Common.{◌≡◌, ◌∙◌, sym, length, rules}
use Rattle.column_vectors.proofs.PickedColumns.{lane_count}
use Rattle.column_vectors.proofs.value_list.ValueList.len.Goals as goal

pub returns-in-Lane : goal.returns-in-Lane
returns-in-Lane c =
    let is : c.len.result ≡ length c.in-Lane.lane.known.items = search rules in
    is ∙ sym (lane_count c.self.inside.source c.in-Lane.lane c.args.self.now c.in-Lane.is c.self.view_is)
