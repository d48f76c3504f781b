use Rattle.std.proofs.Common.{◌≡◌, ◌<◌, ℕ, Bool, true, false, get_or, length}
use Rattle.std.specs.Prelude.{All}
use Rattle.chunk_filter.proofs.row_mask.set_at.Given as goal

abbrev pub invariant-loop-place : goal.invariant-loop-place
invariant-loop-place l = record {
  count : length l.mask ≡ length l.fn.mask;
  set : (j : ℕ) → j < l.place-index → get_or l.mask (get_or l.places j 0) false ≡ true;
  only : (test : ℕ → Bool) → All (λ place. test place ≡ true) l.places → ((k : ℕ) → get_or l.fn.mask k false ≡ true → test k ≡ true)
      → (k : ℕ) → get_or l.mask k false ≡ true → test k ≡ true;
}
