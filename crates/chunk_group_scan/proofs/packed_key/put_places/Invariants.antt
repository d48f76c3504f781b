use Rattle.std.proofs.Common.{◌≡◌, ◌<◌, ℕ, get_or, length}
use Rattle.sky_row.specs.Keys.{place_in}
use Rattle.chunk_group_scan.proofs.packed_key.put_places.Given as goal

abbrev pub invariant-loop-j : goal.invariant-loop-j
invariant-loop-j l = record {
  len : length l.numbers ≡ length l.places;
  told : (k : ℕ) → k < l.j → place_in (get_or l.numbers k 0) ≡ get_or l.places k 0;
}
