use Rattle.std.proofs.Common.{map, subst, sym}
use Rattle.std.specs.Prelude.{is_some}
use Rattle.column_lists.specs.Columns.{IsGathered}
use Rattle.column_vectors.proofs.Reading.{known_everywhere}
use Rattle.column_vectors.proofs.leaf.known.Goals as goal

pub returns-in-None : goal.returns-in-None
returns-in-None c =
    subst (λ l. IsGathered (map is_some c.args.column.now) c.args.places.now l) (sym c.repeated.ensures)
    (known_everywhere c.args.column.now c.args.places.now c.requires.there c.in-None.ensures.none)
