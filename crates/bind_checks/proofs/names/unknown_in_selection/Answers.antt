use Rattle.std.proofs.Common.{◌∙◌, sym}
use Rattle.std.specs.List.{flat_map}
use Rattle.bind_checks.specs.Parts.{item_mentions}
use Rattle.query_walks.proofs.Firsts.{first_here, first_later, first_of_none}
use Rattle.bind_checks.proofs.names.unknown_in_selection.Goals as goal

pub returns-in-Star : goal.returns-in-Star
returns-in-Star g c = rw c.in-Star.is (first_of_none _ _)

pub returns-in-Some : goal.returns-in-Some
returns-in-Some g c =
    rw c.in-List.is (first_here _ _ (item_mentions c.in-List.list.first) (flat_map item_mentions c.in-List.list.rest)
    _ c.in-Some.ensures)

pub returns-in-None : goal.returns-in-None
returns-in-None g c =
    rw c.in-List.is ((rw c.as_slice.ensures at c.unknown_in_items.ensures) ∙ sym
    (first_later _ _ (item_mentions c.in-List.list.first) (flat_map item_mentions c.in-List.list.rest)
    c.in-None.ensures))
