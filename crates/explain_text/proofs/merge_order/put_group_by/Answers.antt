use Rattle.std.proofs.Common.{codes, length}
use Rattle.answer_rules.specs.Finish.{keys_by}
use Rattle.column_text.proofs.Parting.{as_text}
use Rattle.explain_text.proofs.Places.{first_places}
use Rattle.explain_text.proofs.merge_order.put_group_by.Goals as goal

pub returns : goal.returns
returns g c =
    as_text _ _ _ _ _ (first_places (codes " GROUP BY ") (length (keys_by c.args.merge.now.shape)))
    (rw c.keys_by.ensures at c.put_places_clause.ensures)
