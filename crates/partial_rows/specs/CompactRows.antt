-- Rows of a multiset without a limit: compact rows, which sort as rows without an order key and have the same number of
-- values, and the others.
use Rattle.std.specs.Prelude.{◌≡◌, ℕ, ℤ, Option, pos, ◌+◌, ◌-◌, ◌≤◌, ◌++◌, List, map, vec_len, vec_capacity}
use Rattle.std.specs.declared.cmp.Ordering.{Ordering}
use Rattle.std.specs.Ordering.{int_cmp, on, then_cmp}
use Rattle.answer_rules.specs.declared.rewritten.MergeItem.{MergeItem}
use Rattle.answer_rules.specs.declared.value.Value.{Value}
use Rattle.partial_rows.specs.declared.unlimited_rows.UnlimitedRows.{UnlimitedRows}
use Rattle.partial_rows.specs.declared.compact_row.CompactRow.{CompactRow}
use Rattle.partial_rows.specs.declared.ranked.Ranked.{Ranked}
use Rattle.partial_rows.specs.Rows.{row_values}

-- the row, with the given number of values
abbrev pub full : ℕ → CompactRow → Ranked
full width p = record {
  class = 0;
  value = pos 0;
  first = p.first;
  second = p.second;
  from = p.from;
  to = p.from + width;
}

-- the row as a compact row, which does not hold its number of values
abbrev pub compact_of : Ranked → CompactRow
compact_of r = record { first = r.first; second = r.second; from = r.from }

-- compact rows are ordered by their ids
abbrev pub compact_order : CompactRow → CompactRow → Ordering
compact_order = then_cmp (on (λ p. p.first) int_cmp) (on (λ p. p.second) int_cmp)

-- all rows
abbrev pub all_of : UnlimitedRows → List Ranked
all_of l = map (full l.width) l.compact.items ++ l.rows.items

-- The row sorts as a row without an order key, and has as many values as the compact rows that are there.
pub record IsCompactIn (l : UnlimitedRows) (r : Ranked) : Type 0 where
  pub class : r.class ≡ 0
  pub value : r.value ≡ pos 0
  pub order : r.from ≤ r.to
  pub wide : map (full (r.to - r.from)) l.compact.items ≡ map (full l.width) l.compact.items

-- There is room for the given number of more rows of either kind.
pub record HasRoom (l : UnlimitedRows) (n : ℕ) : Type 0 where
  pub compact : vec_len l.compact + n ≤ vec_capacity l.compact
  pub rows : vec_len l.rows + n ≤ vec_capacity l.rows

-- There is room for at most one row less than there was.
pub record TakesOne (old new : UnlimitedRows) : Type 0 where
  pub compact : vec_len new.compact ≤ vec_len old.compact + 1
  pub compact_room : vec_capacity new.compact ≡ vec_capacity old.compact
  pub rows : vec_len new.rows ≤ vec_len old.rows + 1
  pub rows_room : vec_capacity new.rows ≡ vec_capacity old.rows

-- the merged items of a compact row
abbrev pub compact_values : List (Option ℤ) → List MergeItem → ℕ → CompactRow → List Value
compact_values cells items width p = row_values cells items (full width p)
