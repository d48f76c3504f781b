use Rattle.std.proofs.Common.{◌≡◌, ◌<◌, ◌≤◌, ℕ, [], ◌∷◌, ◌++◌, length, get_or, None}
use Rattle.column_lists.proofs.further.push_cells.Given as goal
use Rattle.table_rules.specs.declared.limits.TheConstants.{FURTHER_COLUMNS_MOST}

abbrev pub invariant-loop-k : goal.invariant-loop-k
invariant-loop-k l = record {
  count : length l.columns.items ≡ length l.fn.columns.items;
  few : length l.fn.row.further ≤ FURTHER_COLUMNS_MOST;
  put : (j : ℕ) → j < l.k → get_or l.columns.items j [] ≡ get_or l.fn.columns.items j [] ++ get_or l.fn.row.further j None ∷ [];
  rest : (j : ℕ) → l.k ≤ j → get_or l.columns.items j [] ≡ get_or l.fn.columns.items j [];
}
