-- What the fields of a board say about its journal.
use Rattle.std.specs.Prelude.{◌≡◌, ℕ, ◌<◌, ◌≤◌, List, ◌∷◌, ◌++◌}
use Rattle.std.specs.Prelude.{AllPairs, length, get_or, Bool, true, not, count_by}
use Rattle.scan_rules.specs.declared.limits.TheConstants.{RING_MOST, RUNNING_MOST}
use Rattle.scan_rules.specs.Lines.{takes}
use Rattle.scan_rules.specs.Numbers.{has}
use Rattle.scan_rules.specs.Queries.{Journal, is_attached, is_cancelled, is_lost}
use Rattle.scan_rules.specs.Queries.{is_collected, is_closed, is_given, wanted}
use Rattle.scan_rules.specs.Scan.{needs, place, running_count, offset}
use Rattle.scan_rules.specs.Runs.{IsRun}
use Rattle.scan_core.specs.declared.limits.TheConstants.{SLOTS}
use Rattle.scan_core.specs.declared.slot.Slot.{Slot}

-- the chunks are in scan order from a position, the next one last: what is before a chunk in the list is farther away
pub record IsAhead (ring place : ℕ) (chunks : List ℕ) : Type 0 where
  pub nearer : (front : List ℕ) (chunk : ℕ) (rest : List ℕ) (other : ℕ)
      → chunks ≡ front ++ chunk ∷ rest → has front other ≡ true
      → offset ring place chunk < offset ring place other

-- the number of chunks of a query that are not given to it yet
abbrev pub owed_in : Journal → ℕ → ℕ
owed_in past q = count_by (λ chunk. not (is_given past q chunk)) (wanted past q)

-- a slot agrees with the journal on what happened to its query
pub record Words (past : Journal) (q : ℕ) (slot : Slot) : Type 0 where
  pub attached : slot.attached ≡ is_attached past q
  pub cancelled : slot.cancelled ≡ is_cancelled past q
  pub lost : slot.lost ≡ is_lost past q
  pub collected : slot.collected ≡ is_collected past q
  pub owed : slot.owed ≡ owed_in past q

-- a slot agrees with the journal, and has the chunks that the query needs, in scan order
pub record Fits (ring : ℕ) (past : Journal) (q : ℕ) (slot : Slot) : Type 0 where
  pub words : Words past q slot
  pub ahead : (chunk : ℕ) → has slot.ahead.items chunk ≡ needs past q chunk
  pub ordered : IsAhead ring (place ring past) slot.ahead.items

-- the fields of a board agree with its journal, which is a run: its position, the number of takes, whether it is
-- closed, and all `SLOTS` slots. Each list of wanted chunks ascends
pub record Kept (ring here tickets : ℕ) (closed : Bool) (slots : List Slot) (past : Journal) : Type 0 where
  pub small : ring ≤ RING_MOST
  pub low : here ≤ ring
  pub run : IsRun ring past
  pub stands : here ≡ place ring past
  pub counted : tickets ≡ count_by takes past
  pub closes : closed ≡ is_closed past
  pub full : length slots ≡ SLOTS
  pub few : running_count past ≤ RUNNING_MOST
  pub each : (q : ℕ) (d : Slot) → q < SLOTS → Fits ring past q (get_or slots q d)
  pub ascend : (q : ℕ) → AllPairs (λ a b. a < b) (wanted past q)
