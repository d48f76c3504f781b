-- Which slots do not matter to the scan.
use Rattle.std.specs.Prelude.{◌≡◌, ℕ, ◌<◌, ◌≤◌, List, [], length, get_or, false}
use Rattle.scan_core.specs.declared.limits.TheConstants.{SLOTS}
use Rattle.scan_core.specs.declared.slot.Slot.{Slot}
use Rattle.scan_core.specs.Slots.{runs}

-- the query does not run, and needs no chunk
pub record IsAtRest (slot : Slot) : Type 0 where
  pub still : runs slot ≡ false
  pub none : slot.ahead.items ≡ []

-- there are all slots; those before `from`, and those from `to` on, are at rest
pub record RestOutside (slots : List Slot) (from to : ℕ) : Type 0 where
  pub full : length slots ≡ SLOTS
  pub order : from ≤ to
  pub high : to ≤ SLOTS
  pub before : (q : ℕ) (d : Slot) → q < from → IsAtRest (get_or slots q d)
  pub after : (q : ℕ) (d : Slot) → to ≤ q → q < SLOTS → IsAtRest (get_or slots q d)
