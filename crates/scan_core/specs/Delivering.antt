-- What a deliver is given, and how it changes the pieces and the slots.
use Rattle.std.specs.Prelude.{◌≡◌, ℕ, ◌+◌, ◌<◌, ◌≤◌, List, [], ◌∷◌, AllPairs, Contains, length, get_or}
use Rattle.std.specs.Prelude.{Bool, true, false, ◌||◌, Option, Some, IfSome}
use Rattle.scan_rules.specs.declared.journal_line.JournalLine.TheVariants.{Take, Deliver}
use Rattle.scan_rules.specs.Numbers.{has}
use Rattle.scan_rules.specs.Queries.{Journal, is_delivered}
use Rattle.scan_rules.specs.Delivers.{LosesWithoutPiece, entry_of, query_of}
use Rattle.scan_rules.specs.Runs.{MayDeliver}
use Rattle.scan_core.specs.declared.limits.TheConstants.{SLOTS}
use Rattle.scan_core.specs.declared.slot.Slot.{Slot}
use Rattle.scan_core.specs.Boards.{BoardState, TaskState, gains}
use Rattle.scan_core.specs.Changes.{Beside}
use Rattle.scan_core.specs.Pieces.{MayAbsorb}
use Rattle.scan_core.specs.Slots.{runs}

-- the task was taken by this participant, and is not delivered
pub record InFlight (past : Journal) (seat : ℕ) (task : TaskState) : Type 0 where
  pub taken : Contains past (Take seat task.ticket task.chunk task.queries)
  pub undelivered : is_delivered past task.ticket ≡ false

-- there are at most as many entries as queries, and each piece represents the chunk and the query at its position
pub record PiecesFit {P : Type 0} (stands : ℕ → List ℕ → P → Type 0) (chunk : ℕ) (queries : List ℕ)
    (entries : List (Option P)) : Type 0 where
  pub few : length entries ≤ length queries
  pub each : (turn : ℕ) → turn < length entries
      → IfSome (entry_of entries turn) (λ piece. stands (query_of queries turn) (chunk ∷ []) piece)

-- a query is lost only if it has no entry, or if a piece could not absorb its entry for lack of memory
pub record LosesForCause {P : Type 0} (refuses : P → P → Type 0) (queries : List ℕ) (entries : List (Option P))
    (lost : List ℕ) : Type 0 where
  pub each : (turn : ℕ) → turn < length queries → has lost (query_of queries turn) ≡ true
      → IfSome (entry_of entries turn) (λ other. (mine : P) × refuses mine other)

-- the line of a deliver, and the board after it: a running query is lost if it has no piece, and only for a cause
pub record DeliversTask {R P : Type 0} (refuses : P → P → Type 0) (seat : ℕ) (task : TaskState) (entries : List (Option P))
    (old new : BoardState R) : Type 0 where
  pub lost : List ℕ
  pub may : MayDeliver old.past seat task.ticket lost
  pub line : new ≡ gains old (Deliver seat task.ticket lost)
  pub loses : LosesWithoutPiece old.past task.queries entries lost
  pub causes : LosesForCause refuses task.queries entries lost

-- a piece has absorbed an entry
pub record Absorbed {P : Type 0} (absorbs : P → P → P → Type 0) (entry old new : Option P) : Type 0 where
  pub mine : P
  pub other : P
  pub it : P
  pub was : old ≡ Some mine
  pub came : entry ≡ Some other
  pub now : new ≡ Some it
  pub joined : absorbs mine other it

-- if a piece and its entry are both present, the one could not absorb the other
abbrev pub Refuses : {P : Type 0} → (P → P → Type 0) → Option P → Option P → Type 0
Refuses refuses (Some mine) (Some other) = refuses mine other
Refuses refuses _ _ = Unit {0}

-- the piece of each of the first n queries that is lost could not absorb its entry, if both are present
pub record RefusedAll {P : Type 0} (refuses : P → P → Type 0) (queries : List ℕ) (entries old : List (Option P))
    (lost : List ℕ) (n : ℕ) : Type 0 where
  pub each : (turn : ℕ) → turn < n → has lost (query_of queries turn) ≡ true
      → Refuses refuses (entry_of old (query_of queries turn)) (entry_of entries turn)

-- each of the first n queries that runs has absorbed its entry, or is lost; the pieces of all others are unchanged
pub record HandedIn {P : Type 0} (absorbs : P → P → P → Type 0) (slots : List Slot) (queries : List ℕ)
    (entries old new : List (Option P)) (lost : List ℕ) (n : ℕ) : Type 0 where
  pub len : length new ≡ length old
  pub other : (j : ℕ) (d : Option P) → ((turn : ℕ) → turn < n → query_of queries turn ≡ j → ⊥)
      → get_or new j d ≡ get_or old j d
  pub each : (turn : ℕ) (d : Slot) → turn < n → runs (get_or slots (query_of queries turn) d) ≡ true
      → has lost (query_of queries turn) ≡ false
      → Absorbed absorbs (entry_of entries turn) (entry_of old (query_of queries turn)) (entry_of new (query_of queries turn))
  pub losable : (j : ℕ) → has lost j ≡ true
      → (turn : ℕ) × (turn < n) × (query_of queries turn ≡ j) × ((d : Slot) → runs (get_or slots j d) ≡ true)

-- a slot is owed one chunk less, and needs nothing more if its query is lost
pub record Paid (lost : Bool) (old new : Slot) : Type 0 where
  pub attached : new.attached ≡ old.attached
  pub cancelled : new.cancelled ≡ old.cancelled
  pub gone : new.lost ≡ (old.lost || lost)
  pub collected : new.collected ≡ old.collected
  pub owed : new.owed + 1 ≡ old.owed
  pub cleared : lost ≡ true → new.ahead.items ≡ []
  pub kept : lost ≡ false → new.ahead.items ≡ old.ahead.items

-- only the slot at position q changed, which is owed one chunk less
pub record PaidAt (lost : Bool) (old new : List Slot) (q : ℕ) : Type 0 where
  pub beside : Beside old new q
  pub here : (d : Slot) → Paid lost (get_or old q d) (get_or new q d)

-- the slots of the first n queries are owed one chunk less each, and no other slot changed
pub record PaidAll (queries lost : List ℕ) (old new : List Slot) (n : ℕ) : Type 0 where
  pub len : length new ≡ length old
  pub other : (j : ℕ) (d : Slot) → ((turn : ℕ) → turn < n → query_of queries turn ≡ j → ⊥)
      → get_or new j d ≡ get_or old j d
  pub each : (turn : ℕ) (d : Slot) → turn < n
      → Paid (has lost (query_of queries turn)) (get_or old (query_of queries turn) d) (get_or new (query_of queries turn) d)

-- if both pieces are present, the one may absorb the other
abbrev pub Fitting : {R P : Type 0} → (R → ℕ → List ℕ → P → Type 0) → Option P → Option P → Type 0
Fitting stands (Some mine) (Some other) = MayAbsorb stands mine other
Fitting stands _ _ = Unit {0}

-- the piece of each query that runs may absorb its entry
pub record FitAll {R P : Type 0} (stands : R → ℕ → List ℕ → P → Type 0) (slots : List Slot) (queries : List ℕ)
    (entries pieces : List (Option P)) : Type 0 where
  pub each : (turn : ℕ) (d : Slot) → turn < length queries → runs (get_or slots (query_of queries turn) d) ≡ true
      → Fitting stands (entry_of pieces (query_of queries turn)) (entry_of entries turn)

-- the queries of a task ascend, and have numbers from 1 to 255
pub record AreTasked (queries : List ℕ) : Type 0 where
  pub ascend : AllPairs (λ a b. a < b) queries
  pub from_1 : (turn : ℕ) → turn < length queries → 1 ≤ query_of queries turn
  pub to_255 : (turn : ℕ) → turn < length queries → query_of queries turn < SLOTS

-- each of the queries is owed a chunk
pub record AllOwed (slots : List Slot) (queries : List ℕ) : Type 0 where
  pub each : (turn : ℕ) (d : Slot) → turn < length queries → 1 ≤ (get_or slots (query_of queries turn) d).owed
