use Rattle.std.proofs.Common.{◌∙◌, sym}
use Rattle.std.specs.List.{flat_map}
use Rattle.query_walks.specs.Firsts.{first_place}
use Rattle.bind_checks.specs.Parts.{plain_columns_of}
use Rattle.query_walks.proofs.Firsts.{first_here, first_later}
use Rattle.bind_checks.proofs.grouping.ungrouped_in_selection.Goals as goal

pub returns-in-Some : goal.returns-in-Some
unfolding first_place
returns-in-Some c =
    rw c.in-List.is (first_here _ _ (plain_columns_of c.in-List.list.first)
    (flat_map plain_columns_of c.in-List.list.rest) _ c.in-Some.ensures)

pub returns-in-None : goal.returns-in-None
unfolding first_place
returns-in-None c =
    rw c.in-List.is ((rw c.as_slice.ensures at c.ungrouped_in_items.ensures) ∙ sym
    (first_later _ _ (plain_columns_of c.in-List.list.first) (flat_map plain_columns_of c.in-List.list.rest)
    c.in-None.ensures))
