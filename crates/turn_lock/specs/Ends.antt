-- Lemmas on participant 0 once the others have handed their entries over to it: what it stores of them, and that the
-- history does not grow any more.
use Rattle.std.specs.Prelude.{◌≡◌, ℕ, ◌<◌, List, Contains, ◌⊎◌}
use mathlib.Core.List.{IsPrefix}
use Rattle.turn_lock.specs.Seats.{Knows, Seated, having_seen}

-- every other participant that was made has handed its entries over to this one
pub record AllHaveEnded {R E : Type 0} (seat : Seated R E) : Type 0 where
  pub each : (n : ℕ) → 0 < n → n < seat.made → (es : List E) × Contains seat.ended (n, es)

-- the participant that made this entry has ended, and the entry is stored with its number
pub record IsKeptOf {R E : Type 0} (seat_of : E → ℕ) (seat : Seated R E) (entry : E) : Type 0 where
  pub entries : List E
  pub ended : Contains seat.ended (seat_of entry, entries)
  pub there : Contains entries entry

-- each entry that participant 0 has seen is its own, or is stored with the number of the participant that made it
abbrev pub EntriesAreKept : (R : Type 0) {E : Type 0} → (E → ℕ) → Type 0
EntriesAreKept R {E} seat_of =
    (seat : Seated R E) (entry : E)
    → seat.number ≡ 0 → Knows seat_of seat → AllHaveEnded seat → Contains seat.seen entry
    → Contains seat.mine entry ⊎ IsKeptOf seat_of seat entry

-- the history that participant 0 finds when it enters is what it had seen before
abbrev pub NothingIsAdded : (R : Type 0) {E : Type 0} → (E → ℕ) → Type 0
NothingIsAdded R {E} seat_of =
    (seat : Seated R E) (past : List E)
    → seat.number ≡ 0 → Knows seat_of seat → AllHaveEnded seat → IsPrefix seat.seen past
    → Knows seat_of (having_seen past seat) → past ≡ seat.seen
