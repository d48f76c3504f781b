-- What a multiset of rows contains, by its fields.
use Rattle.std.specs.Prelude.{◌≡◌, ℕ, ℤ, ◌≤◌, ◌+◌, ◌-◌, ◌^◌, ◌++◌, List, [], map, length, Option, Some, None, All, IfSome, false}
use Rattle.std.specs.List.{AllByRecursion}
use Rattle.std.specs.Ordering.{is_lt}
use Rattle.answer_rules.specs.Ranks.{row_order}
use Rattle.std.specs.BinaryHeap.{heap_items, IsHeap}
use Rattle.answer_rules.specs.declared.row.OutRow.{OutRow}
use Rattle.partial_rows.specs.declared.row_buffer.RowBuffer.{RowBuffer}
use Rattle.partial_rows.specs.declared.row_buffer.RowBuffer.TheVariants as buffer
use Rattle.partial_rows.specs.declared.ranked.Ranked.{Ranked}
use Rattle.partial_rows.specs.declared.rank.Rank.{Rank}
use Rattle.partial_rows.specs.Pairs.{pair_row}
use Rattle.partial_rows.specs.CompactRows.{all_of}
use Rattle.partial_rows.specs.Rows.{IsBehindAll, IsIn, rank_order, row_of}
use Rattle.partial_rows.specs.Views.{MultisetView}

-- the rows that are kept
abbrev pub ranks_in : RowBuffer → List Ranked
ranks_in (buffer.All unlimited) = all_of unlimited
ranks_in (buffer.First limit heap) = heap_items heap

-- the limit
abbrev pub pushed_in : RowBuffer → Option ℕ
pushed_in (buffer.All unlimited) = None
pushed_in (buffer.First limit heap) = Some limit

-- the rows that are kept, with their values
abbrev pub rows_in : List (Option ℤ) → RowBuffer → List OutRow
rows_in cells k = map (row_of cells) (ranks_in k)

-- the first n are at most n, and a heap
abbrev pub IsOrdered : RowBuffer → Type 0
IsOrdered (buffer.All unlimited) = Unit {0}
IsOrdered (buffer.First limit heap) = IsHeap rank_order (heap_items heap) × (length (heap_items heap) ≤ limit)

-- the values of each row are among the given number of values, and the rows are ordered as their kind requires
abbrev pub IsRowBuffer : ℕ → RowBuffer → Type 0
IsRowBuffer cells k = All (IsIn cells) (ranks_in k) × IsOrdered k

-- The values of each row are in the list, pairs are stored apart only without a limit, and rows and pairs can be
-- counted.
pub record IsMultiset (cells : ℕ) (k : RowBuffer) (pairs : List ℕ) : Type 0 where
  pub kept : IsRowBuffer cells k
  pub all : IfSome (pushed_in k) (λ n. pairs ≡ [])
  pub few : length (ranks_in k) + length pairs ≤ 2 ^ 64 - 1

-- there are n rows, and the row comes before none of them
abbrev pub IsTooLate : Ranked → RowBuffer → Type 0
IsTooLate r (buffer.All unlimited) = ⊥
IsTooLate r (buffer.First limit heap) = (limit ≤ length (heap_items heap)) × IsBehindAll r (heap_items heap)

-- a row with this sort key, and with its values at these positions
abbrev pub ranked_at : Rank → ℕ → ℕ → Ranked
ranked_at r from to = record {
  class = r.class;
  value = r.value;
  first = r.first;
  second = r.second;
  from = from;
  to = to;
}

-- a row with this sort key and these values
abbrev pub out_row : Rank → List (Option ℤ) → OutRow
out_row r cells = record { class = r.class; value = r.value; first = r.first; second = r.second; cells = cells }

-- a row with this sort key comes before none of these, whatever its values
abbrev pub ComesBeforeNone : Rank → List OutRow → Type 0
ComesBeforeNone r rows = AllByRecursion (λ m. is_lt (row_order (out_row r []) m) ≡ false) rows

-- a multiset, by its rows, their values, and the pairs that are stored apart
abbrev pub view_of : RowBuffer → List (Option ℤ) → List ℕ → MultisetView
view_of k cells pairs = record { pushed = pushed_in k; rows = rows_in cells k ++ map pair_row pairs }
