use Rattle.std.proofs.Common.{◌≡◌, ◌<◌, ◌≤◌, ℕ, [], length, get_or}
use Rattle.column_lists.specs.Columns.{IsFront}
use Rattle.column_lists.specs.Filling.{IsFilled}
use Rattle.column_lists.proofs.further.fill_columns.Given as goal

abbrev pub invariant-loop-k : goal.invariant-loop-k
invariant-loop-k l = record {
  wide : length l.columns.items ≡ length l.fn.columns.items;
  filled : (j : ℕ) → j < l.k → IsFilled l.fn.count (get_or l.table j []) l.places (get_or l.columns.items j []);
  front : (j : ℕ) → j < l.k → IsFront (get_or l.fn.columns.items j []) (get_or l.columns.items j []);
  rest : (j : ℕ) → l.k ≤ j → get_or l.columns.items j [] ≡ get_or l.fn.columns.items j [];
}
