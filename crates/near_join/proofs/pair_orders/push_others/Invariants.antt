use Rattle.std.proofs.Common.{take}
use Rattle.std.specs.List.{flat_map}
use Rattle.near_join.specs.Gains.{Gains}
use Rattle.near_join.specs.Neighbours.{neighbour_pairs, row_of}
use Rattle.near_join.proofs.pair_orders.push_others.Given as goal

abbrev pub invariant-loop-other : goal.invariant-loop-other
invariant-loop-other l = Gains l.asked.query.now (flat_map (neighbour_pairs l.asked.query.now l.asked.reach.now.limit l.asked.rows.now.objects l.this.held (row_of l.asked.rows.now.objects l.this)) (take l.other-index l.found)) l.fn.piece l.piece
