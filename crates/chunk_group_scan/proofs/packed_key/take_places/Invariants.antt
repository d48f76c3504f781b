use Rattle.std.proofs.Common.{◌≡◌, ◌<◌, ℕ, get_or, length}
use Rattle.sky_row.specs.Keys.{place_in}
use Rattle.chunk_group_scan.proofs.packed_key.take_places.Given as goal

abbrev pub invariant-loop-j : goal.invariant-loop-j
invariant-loop-j l = record {
  len : length l.places ≡ length l.words;
  told : (k : ℕ) → k < l.j → get_or l.places k 0 ≡ place_in (get_or l.words k 0);
}
