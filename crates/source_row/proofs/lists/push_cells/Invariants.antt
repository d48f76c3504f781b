use Rattle.std.proofs.Common.{◌≡◌, ◌<◌, ◌≤◌, ℕ, [], ◌∷◌, ◌++◌, length, get_or, None}
use Rattle.source_row.proofs.lists.push_cells.Given as goal

abbrev pub invariant-loop-k : goal.invariant-loop-k
invariant-loop-k l = record {
  count : length l.columns.items ≡ length l.fn.columns.items;
  put : (j : ℕ) → j < l.k → get_or l.columns.items j [] ≡ get_or l.fn.columns.items j [] ++ get_or l.fn.cells j None ∷ [];
  rest : (j : ℕ) → l.k ≤ j → get_or l.columns.items j [] ≡ get_or l.fn.columns.items j [];
}
