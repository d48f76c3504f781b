-- Rows as a multiset stores them: a sort key and the positions of the values.
use Rattle.std.specs.Prelude.{◌≡◌, false, slice_index_or, ℕ, ◌+◌, ◌-◌, ◌≤◌, ℤ, map, List, Option, slice_range}
use Rattle.std.specs.declared.cmp.Ordering.{Ordering}
use Rattle.std.specs.List.{AllByRecursion}
use Rattle.std.specs.Ordering.{is_lt, nat_cmp, int_cmp, on, then_cmp}
use Rattle.answer_rules.specs.declared.row.OutRow.{OutRow}
use Rattle.answer_rules.specs.declared.rewritten.MergeItem.{MergeItem}
use Rattle.answer_rules.specs.declared.value.Value.{Value}
use Rattle.answer_rules.specs.Finish.{column_value}
use Rattle.partial_rows.specs.declared.ranked.Ranked.{Ranked}

-- rows are ordered by the sort key of their order key, then by their ids
abbrev pub rank_order : Ranked → Ranked → Ordering
rank_order =
    then_cmp (on (λ r. r.class) nat_cmp)
    (then_cmp (on (λ r. r.value) int_cmp) (then_cmp (on (λ r. r.first) int_cmp) (on (λ r. r.second) int_cmp)))

-- the row, with its values
abbrev pub row_of : List (Option ℤ) → Ranked → OutRow
row_of cells r = record {
  class = r.class;
  value = r.value;
  first = r.first;
  second = r.second;
  cells = slice_range cells r.from r.to;
}

-- The values of the row are in the list.
pub record IsIn (cells : ℕ) (r : Ranked) : Type 0 where
  pub order : r.from ≤ r.to
  pub there : r.to ≤ cells

-- the row with its values shifted by the given offset
abbrev pub moved : ℕ → Ranked → Ranked
moved n r = record {
  class = r.class;
  value = r.value;
  first = r.first;
  second = r.second;
  from = r.from + n;
  to = r.to + n;
}

-- the row with its values from this position on
abbrev pub placed : ℕ → Ranked → Ranked
placed n r = record {
  class = r.class;
  value = r.value;
  first = r.first;
  second = r.second;
  from = n;
  to = n + (r.to - r.from);
}

-- the row comes before none of them
abbrev pub IsBehindAll : Ranked → List Ranked → Type 0
IsBehindAll r rows = AllByRecursion (λ m. is_lt (rank_order r m) ≡ false) rows

-- the first of them does not come before the row
abbrev pub IsUpToFirst : Ranked → List Ranked → Type 0
IsUpToFirst r rows = (d : Ranked) → is_lt (rank_order (slice_index_or rows 0 d) r) ≡ false

-- the merged items of a row
abbrev pub row_values : List (Option ℤ) → List MergeItem → Ranked → List Value
row_values cells items r = map (column_value (row_of cells r).cells) items
