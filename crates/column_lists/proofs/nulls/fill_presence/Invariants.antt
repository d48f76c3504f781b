use Rattle.std.proofs.Common.{◌≡◌, ◌<◌, ◌≤◌, ℕ, true, get_or, length, vec_capacity}
use Rattle.column_lists.proofs.nulls.fill_presence.Given as goal

abbrev pub invariant-loop-earlier : goal.invariant-loop-earlier
invariant-loop-earlier l = record {
  count : length l.found.items ≡ l.earlier;
  room : l.fn.count ≤ vec_capacity l.found;
  each : (j : ℕ) → j < l.fn.from → get_or l.found.items j true ≡ get_or l.present (get_or l.places j 0) true;
}

abbrev pub invariant-loop-k : goal.invariant-loop-k
invariant-loop-k l = record {
  count : length l.found.items ≡ l.k;
  room : l.fn.count ≤ vec_capacity l.found;
  each : (j : ℕ) → j < l.k → get_or l.found.items j true ≡ get_or l.present (get_or l.places j 0) true;
}
