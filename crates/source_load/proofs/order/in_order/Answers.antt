use Rattle.std.proofs.Common.{sym, subst, rules, pos, ◌≤ℤ◌}
use Rattle.std.specs.Prelude.{All}
use Rattle.std.proofs.lemmas.List.Sorted.{IsPermutation-refl}
use Rattle.table_rules.specs.IdOrder.{IsInOrder}
use Rattle.sky_row.specs.Columns.{AreAscending}
use Rattle.source_rules.specs.SourceRecords.{id_of_source}
use Rattle.source_row.specs.SourceColumns.{sources_in}
use Rattle.source_row.proofs.Sourced.{table_is}
use Rattle.source_load.proofs.SourceOrders.{ids_from_0}
use Rattle.source_load.proofs.order.in_order.Goals as goal

pub places_in_order-requires-clause-low : goal.places_in_order-requires-clause-low
places_in_order-requires-clause-low c =
    subst (λ l. All (λ id. pos 0 ≤ℤ id) l) (sym c.ids-2.ensures) (ids_from_0 c.args.schema c.args.lists c.requires.are)

pub returns-then-ids_ascend-clause-table : goal.returns-then-ids_ascend-clause-table
returns-then-ids_ascend-clause-table c =
    let up : AreAscending c.args.lists.ids = search rules in
    let table : IsInOrder id_of_source (sources_in c.args.lists) (sources_in c.args.lists) = record {
      same = IsPermutation-refl (sources_in c.args.lists);
      ascend = (table_is c.args.schema c.args.lists c.requires.are up).ascend;
    } in
    subst (λ v. IsInOrder id_of_source (sources_in c.args.lists) v.sources) (sym c.ascending.ensures) table
