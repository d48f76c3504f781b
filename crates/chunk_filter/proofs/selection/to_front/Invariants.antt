use Rattle.std.proofs.Common.{◌≡◌, ◌≤◌, ℕ, Bool, length, map}
use Rattle.std.proofs.lemmas.List.Filters.{FiltersInPlace}
use Rattle.chunk_filter.proofs.selection.to_front.Given as goal

abbrev pub invariant-loop-i : goal.invariant-loop-i
invariant-loop-i l = record {
  low : l.count ≤ l.i;
  long : length l.places ≡ length l.mask;
  filters : (test : ℕ → Bool) → l.mask ≡ map test l.fn.places → FiltersInPlace test l.fn.places l.places l.count l.i;
}
