use Rattle.std.proofs.Common.{sym, subst}
use Rattle.std.specs.Prelude.{IsTrue}
use Rattle.sky_vector.specs.Points.{is_admissible}
use Rattle.column_lists.proofs.lists.Lists.row.Goals as goal

pub of_cells-requires-clause-admissible : goal.of_cells-requires-clause-admissible
of_cells-requires-clause-admissible c =
    subst (λ p. IsTrue (is_admissible p)) (sym c.position-at.ensures) (c.requires.rows.rows c.args.i c.requires.there).at
