use Rattle.std.proofs.Common.{◌++◌, ◌≤◌, ℤ, List, ap, arith, length, length-append, subst}
use Rattle.std.proofs.lemmas.List.{length-map}
use Rattle.partial_groups.specs.Groups.{Gathered}
use Rattle.partial_groups.specs.Ungrouped.{counted_group, row_groups, values_in}
use Rattle.partial_groups.proofs.Consolidating.{gathered_short}
use Rattle.partial_groups.proofs.Combinable.{rows_both}
use Rattle.partial_groups.proofs.RowCounts.{rows_long}
use Rattle.partial_groups.proofs.grouped_rows.GroupedRows.len.Goals as goal

pub returns : goal.returns
returns c =
    let values : List ℤ = values_in c.self.inside.lists.items in
    let rows : Gathered = row_groups c.self.inside.counted.items values in
    subst (λ (gs : Gathered). length gs ≤ c.saturating_add.result) c.self.view_is
    (omega (
      arith,
      gathered_short (c.self.inside.groups ++ rows),
      length-append c.self.inside.groups rows,
      length-map values (counted_group c.self.inside.counted.items 1),
      c.self.invariant.few,
      rows_both c.self.inside.groups rows,
      rows_long c.self.inside.counted.items values,
      c.len.ensures.most,
      c.len.ensures.small,
      ap (λ l. length (values_in l)) c.as_slice.ensures.value,
      c.number_count-rows.ensures,
      c.saturating_add.ensures,
    ))
