use Rattle.std.proofs.Common.{◌≡◌, ◌<◌, ◌≤◌, ℕ, length, get_or, pos}
use Rattle.column_vectors.proofs.join.each_narrow.Given as goal

abbrev pub invariant-loop-i : goal.invariant-loop-i
invariant-loop-i g l = record {
  count : length l.left ≡ length l.fn.left;
  joined : (k : ℕ) → k < l.i → get_or l.left k (pos 0) ≡ g.J.Join.joins (get_or l.fn.left k (pos 0)) (get_or l.right k (pos 0));
  rest : (k : ℕ) → l.i ≤ k → get_or l.left k (pos 0) ≡ get_or l.fn.left k (pos 0);
}
