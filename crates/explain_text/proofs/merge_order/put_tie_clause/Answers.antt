use Rattle.std.proofs.Common.{codes, ap, length}
use Rattle.transcript_rules.specs.ColumnNames.{clause}
use Rattle.column_text.proofs.Parting.{as_text}
use Rattle.explain_text.proofs.Places.{tie_places, tie_within}
use Rattle.explain_text.proofs.merge_order.put_tie_clause.Goals as goal

pub put_places_clause-requires : goal.put_places_clause-requires
put_places_clause-requires g c =
    rw (c.tie_start.ensures, c.tie_end.ensures) (tie_within (length c.args.merge.now.items) c.args.merge.now.shape)

pub returns : goal.returns
returns g c =
    as_text _ _ _ _ _ (ap (clause (codes " ORDER BY ")) (tie_places c.args.merge.now c.args.merge.now.shape))
    (rw (c.tie_start.ensures, c.tie_end.ensures) at c.put_places_clause.ensures)
