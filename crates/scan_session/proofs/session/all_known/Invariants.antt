use Rattle.std.proofs.Common.{◌≡◌, ℕ, ◌≤◌, length, vec_len, vec_capacity, get_or, slice_get, Some, None}
use Rattle.scan_session.specs.declared.end.End.{End}
use Rattle.scan_session.proofs.session.all_known.Given as goal

abbrev pub invariant-loop-place : goal.invariant-loop-place
invariant-loop-place g l = record {
  len : vec_len l.ends ≡ l.place;
  room : length l.fn.known ≤ vec_capacity l.ends;
  same : length l.known ≡ length l.fn.known;
  behind : (i : ℕ) → l.place ≤ i → get_or l.known i None ≡ get_or l.fn.known i None;
  told : (i : ℕ) (end : End g.row.P.Denot) → slice_get l.ends.items i ≡ Some end → get_or l.fn.known i None ≡ Some end;
}
