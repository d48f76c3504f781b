-- The replay of a journal: the lines that were replayed, and what its fields say about them.
use Rattle.std.specs.Prelude.{◌≡◌, ℕ, ◌≤◌, ◌<◌, List, [], ◌∷◌, ◌++◌, Contains, length, get_or, take, drop, Bool, true, false, ◌&&◌, nat_lt, count_by}
use Rattle.scan_rules.specs.declared.journal_line.JournalLine.{JournalLine}
use Rattle.scan_rules.specs.declared.journal_line.JournalLine.TheVariants.{Take}
use Rattle.scan_rules.specs.Lines.{takes}
use Rattle.scan_rules.specs.Numbers.{has}
use Rattle.scan_rules.specs.Queries.{Journal, is_delivered}
use Rattle.scan_rules.specs.Runs.{MayFollow}
use Rattle.scan_core.specs.declared.limits.TheConstants.{SLOTS}
use Rattle.scan_core.specs.declared.slot.Slot.{Slot}
use Rattle.scan_core.specs.declared.take_record.TakeRecord.{TakeRecord}
use Rattle.scan_core.specs.Changes.{Beside}
use Rattle.scan_core.specs.Kept.{Kept}
use Rattle.scan_core.specs.Slots.{runs}

-- a journal: its ring, the lines that were replayed, and those that are left
pub record ReplayState : Type 0 where
  pub ring : ℕ
  pub past : Journal
  pub rest : Journal

-- the first `done` of these lines were replayed
abbrev pub shown : ℕ → Journal → ℕ → ReplayState
shown ring lines done = record { ring = ring; past = take done lines; rest = drop done lines }

-- the line is the next one
pub record IsNext (line : JournalLine) (state : ReplayState) : Type 0 where
  pub later : Journal
  pub is : state.rest ≡ line ∷ later

-- the line was replayed
pub record GoesOn (line : JournalLine) (old new : ReplayState) : Type 0 where
  pub ring : new.ring ≡ old.ring
  pub past : new.past ≡ old.past ++ line ∷ []
  pub rest : old.rest ≡ line ∷ new.rest

-- true exactly if the line may follow, and then it was replayed; otherwise nothing changed
pub record Decides (line : JournalLine) (old : ReplayState) (may : Bool) (new : ReplayState) : Type 0 where
  pub right : may ≡ true → MayFollow old.ring old.past line
  pub goes_on : may ≡ true → GoesOn line old new
  pub wrong : may ≡ false → MayFollow old.ring old.past line → ⊥
  pub same : may ≡ false → new ≡ old

-- a record of the take with this ticket: its participant, its queries, and whether it was delivered
pub record IsRecorded (past : Journal) (ticket : ℕ) (it : TakeRecord) : Type 0 where
  pub chunk : ℕ
  pub there : Contains past (Take it.seat ticket chunk it.queries)
  pub delivered_is : it.delivered ≡ is_delivered past ticket

-- there is such a record of each take, at the position of its ticket
pub record AreRecorded (past : Journal) (taken : List TakeRecord) : Type 0 where
  pub all : length taken ≡ count_by takes past
  pub each : (ticket : ℕ) (d : TakeRecord) → ticket < length taken → IsRecorded past ticket (get_or taken ticket d)

-- the fields agree with the lines that were replayed, which are a run
pub record IsReplayed (ring : ℕ) (lines : Journal) (done here : ℕ) (closed : Bool) (slots : List Slot) (taken : List TakeRecord)
    : Type 0 where
  pub within : done ≤ length lines
  pub kept : Kept ring here (length taken) closed slots (take done lines)
  pub recorded : AreRecorded (take done lines) taken

-- by its slot the query runs, and it is one of these
abbrev pub runs_among : List Slot → List ℕ → Slot → ℕ → Bool
runs_among slots queries d q = nat_lt q SLOTS && (runs (get_or slots q d) && has queries q)

-- only the record with this ticket changed, whose take is now delivered
pub record DeliveredAt (old new : List TakeRecord) (ticket : ℕ) : Type 0 where
  pub beside : Beside old new ticket
  pub seat : (d : TakeRecord) → (get_or new ticket d).seat ≡ (get_or old ticket d).seat
  pub queries : (d : TakeRecord) → (get_or new ticket d).queries ≡ (get_or old ticket d).queries
  pub delivered : (d : TakeRecord) → (get_or new ticket d).delivered ≡ true
