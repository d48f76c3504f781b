use Rattle.std.proofs.Common.{◌≡◌, ◌∙◌, ap, sym, subst, arith, rules, map, get_or, pos}
use Rattle.std.specs.List.{IsDistinct}
use Rattle.std.specs.List.Sorted.{IsPermutation}
use Rattle.std.specs.Ordering.{int_eq}
use Rattle.table_rules.specs.IdOrder.{IsInOrder}
use Rattle.sky_row.specs.Columns.{AreAscending}
use Rattle.source_rules.specs.SourceRecords.{id_of_source}
use Rattle.source_row.specs.SourceColumns.{AreSourceColumns, sources_in}
use Rattle.source_row.proofs.Sourced.{columns_at_places, sources_at_places, table_is}
use Rattle.source_load.proofs.SourceOrders.{ascend_if_apart, places_there, same_sources}
use Rattle.source_load.proofs.order.moved.Goals as goal

pub at-requires-clause-there : goal.at-requires-clause-there
at-requires-clause-there c = (places_there c.args.lists.ids c.args.places.now c.requires.places).0

pub ascending-requires-clause-are : goal.ascending-requires-clause-are
ascending-requires-clause-are c =
    let within = places_there c.args.lists.ids c.args.places.now c.requires.places in
    subst (AreSourceColumns c.args.schema) (sym c.in_ok-moved.ensures)
    (columns_at_places c.args.schema c.args.lists c.args.places.now c.requires.are within.0 (omega (arith, within.1, c.requires.are.few)))

pub returns-then-ids_ascend-clause-table : goal.returns-then-ids_ascend-clause-table
returns-then-ids_ascend-clause-table c =
    let within = places_there c.args.lists.ids c.args.places.now c.requires.places in
    let are = subst (AreSourceColumns c.args.schema) (sym c.in_ok-moved.ensures)
    (columns_at_places c.args.schema c.args.lists c.args.places.now c.requires.are within.0 (omega (arith, within.1, c.requires.are.few))) in
    let up : AreAscending c.in_ok-moved.moved.ids = search rules in
    let there = ap sources_in c.in_ok-moved.ensures ∙ sources_at_places c.args.lists c.args.places.now within.0 in
    let table : IsInOrder id_of_source (sources_in c.args.lists) (sources_in c.in_ok-moved.moved) = record {
      same = subst (IsPermutation (sources_in c.args.lists)) (sym there) (same_sources c.args.lists c.args.places.now c.requires.places);
      ascend = (table_is c.args.schema c.in_ok-moved.moved are up).ascend;
    } in
    subst (λ v. IsInOrder id_of_source (sources_in c.args.lists) v.sources) (sym c.ascending.ensures) table

-- ids no two of which are equal would ascend in the order of these row numbers
pub repeat_among-requires-clause-twice : goal.repeat_among-requires-clause-twice
repeat_among-requires-clause-twice c = λ apart.
    let up = ascend_if_apart c.args.lists.ids c.args.places.now c.requires.places (subst (IsDistinct int_eq) c.ids-else-ids_ascend.ensures apart) in
    let ids : c.ids.result.now ≡ map (λ place. get_or c.args.lists.ids place (pos 0)) c.args.places.now = c.ids.ensures ∙ ap (λ p. p.ids) c.in_ok-moved.ensures in
    search (rules, subst AreAscending (sym ids) up)
