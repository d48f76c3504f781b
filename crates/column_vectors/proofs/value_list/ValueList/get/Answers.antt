use Rattle.std.proofs.Common.{◌∙◌, ◌<◌, None, ap, arith, get_or, length, sym}
use Rattle.column_vectors.specs.Lanes.{numbers_of, value_in}
use Rattle.column_vectors.proofs.Reading.{value_is}
use Rattle.column_vectors.proofs.PickedColumns.{lane_count, lane_small_there, lane_view}
use Rattle.column_vectors.proofs.value_list.ValueList.get.Goals as goal

pub value_at-requires-clause-numbers : goal.value_at-requires-clause-numbers
value_at-requires-clause-numbers c =
    omega (arith, c.requires, lane_count c.self.inside.source c.in-Lane.lane c.args.self.now c.in-Lane.is c.self.view_is, (lane_small_there c.self.inside.source c.in-Lane.lane c.in-Lane.is c.self.invariant).masked)

pub value_at-requires-clause-known : goal.value_at-requires-clause-known
value_at-requires-clause-known c =
    omega (arith, c.requires, ap length c.as_slice.ensures.value, lane_count c.self.inside.source c.in-Lane.lane c.args.self.now c.in-Lane.is c.self.view_is)

pub returns-in-Lane : goal.returns-in-Lane
returns-in-Lane c =
    let lane = c.in-Lane.lane in
    let low : c.args.i < length lane.known.items = omega (arith, c.requires, lane_count c.self.inside.source lane c.args.self.now c.in-Lane.is c.self.view_is) in
    c.value_at.ensures
    ∙ (ap (λ k. value_in (numbers_of lane.numbers) k c.args.i) c.as_slice.ensures.value
    ∙ (sym (value_is (numbers_of lane.numbers) lane.known.items c.args.i None low)
    ∙ ap (λ l. get_or l c.args.i None) (lane_view c.self.inside.source lane c.args.self.now c.in-Lane.is c.self.view_is)))
