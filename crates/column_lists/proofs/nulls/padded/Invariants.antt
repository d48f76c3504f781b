use Rattle.std.proofs.Common.{◌≡◌, ℕ, true, get_or, length}
use Rattle.column_lists.proofs.nulls.padded.Given as goal

abbrev pub invariant-loop-row : goal.invariant-loop-row
invariant-loop-row l = record {
  count : length l.found.items ≡ l.row;
  each : (k : ℕ) → get_or l.found.items k true ≡ get_or l.fn.present.items k true;
}
