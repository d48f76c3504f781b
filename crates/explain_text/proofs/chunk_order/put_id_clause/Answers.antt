use Rattle.std.proofs.Common.{codes, ap, length}
use Rattle.transcript_rules.specs.ColumnNames.{clause}
use Rattle.column_text.proofs.Parting.{as_text}
use Rattle.explain_text.proofs.Places.{id_places, ids_within}
use Rattle.explain_text.proofs.chunk_order.put_id_clause.Goals as goal

pub put_places_clause-requires : goal.put_places_clause-requires
put_places_clause-requires g c =
    rw (c.item_count.ensures.count, c.id_end.ensures) (ids_within (length c.args.chunk.now.items) c.args.chunk.now.shape)

pub returns : goal.returns
returns g c =
    as_text _ _ _ _ _ (ap (clause (codes " ORDER BY ")) (id_places (length c.args.chunk.now.items) c.args.chunk.now.shape))
    (rw (c.item_count.ensures.count, c.id_end.ensures) at c.put_places_clause.ensures)
