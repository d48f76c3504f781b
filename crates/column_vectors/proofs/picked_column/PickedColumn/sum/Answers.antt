use Rattle.column_vectors.proofs.PickedColumns.{places_stay, places_summed}
use Rattle.column_vectors.proofs.picked_column.PickedColumn.sum.Goals as goal

pub sum_at-requires-clause-fits : goal.sum_at-requires-clause-fits
sum_at-requires-clause-fits c = places_summed c.self.inside.values.now c.self.inside.places.now c.self.invariant

pub sum_at-requires-clause-wide : goal.sum_at-requires-clause-wide
sum_at-requires-clause-wide c =
    places_stay c.self.inside.values.now c.self.inside.places.now c.args.from c.args.to c.self.invariant c.requires.few
