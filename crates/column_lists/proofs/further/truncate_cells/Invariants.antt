use Rattle.std.proofs.Common.{◌≡◌, ◌<◌, ◌≤◌, ℕ, [], length, get_or, take}
use Rattle.column_lists.proofs.further.truncate_cells.Given as goal

abbrev pub invariant-loop-k : goal.invariant-loop-k
invariant-loop-k l = record {
  count : length l.columns.items ≡ length l.fn.columns.items;
  cut : (j : ℕ) → j < l.k → get_or l.columns.items j [] ≡ take l.count (get_or l.fn.columns.items j []);
  rest : (j : ℕ) → l.k ≤ j → get_or l.columns.items j [] ≡ get_or l.fn.columns.items j [];
}
