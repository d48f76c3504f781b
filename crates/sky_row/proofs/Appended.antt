-- Columns under names, with the rows of another table appended.
use Rattle.std.proofs.Common.{◌≡◌, ◌∙◌, ℕ, ◌+◌, ◌≤◌, arith, List, length}
use Rattle.std.proofs.lemmas.List.{length-append}
use Rattle.table_rules.specs.declared.limits.TheConstants.{ROWS_MOST}
use Rattle.column_lists.specs.Columns.{Parts, AreRows, rows_appended}
use Rattle.sky_row.specs.Columns.{AreColumns}
use Rattle.column_lists.proofs.Appended.{behind_count, are_behind}

-- and they are columns under the names
pub columns_of_both : (names : List (List ℕ)) (p q : Parts) → AreColumns names p → AreRows q → length q.further ≡ length p.further → length p.ids + length q.ids ≤ ROWS_MOST
    → AreColumns names (rows_appended p q)
columns_of_both names p q a b wide few = record {
  few_names = a.few_names;
  few = omega (arith, few, length-append p.ids q.ids);
  wide = behind_count p.further q.further ∙ a.wide;
  rows = are_behind p q a.rows b wide;
}
