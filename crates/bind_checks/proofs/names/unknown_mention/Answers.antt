use Rattle.std.proofs.Common.{◌∙◌, sym}
use Rattle.query_walks.proofs.Firsts.{first_here, first_later}
use Rattle.bind_checks.proofs.names.unknown_mention.Goals as goal

pub returns-in-Some : goal.returns-in-Some
returns-in-Some g c = first_here _ _ _ _ _ c.in-Some.ensures

pub returns-in-None : goal.returns-in-None
returns-in-None g c =
    (rw c.as_slice.ensures at c.unknown_in_columns.ensures) ∙ sym (first_later _ _ _ _ c.in-None.ensures)
