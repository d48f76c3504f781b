-- Why a piece of a task is missing when the task is delivered, and why a query is lost.
use Rattle.std.specs.Prelude.{◌≡◌, ℕ, ◌<◌, List, [], ◌∷◌, Option, None, true, ◌⊎◌, length}
use Rattle.scan_rules.specs.Delivers.{entry_of, query_of}
use Rattle.scan_rules.specs.Numbers.{has}
use Rattle.scan_rules.specs.Queries.{Journal, is_lost}
use Rattle.scan_core.specs.Boards.{TaskState}
use Rattle.scan_core.specs.Changes.{Beside}

-- each of the first n entries of a task is a piece, or the engine refused the piece
pub record NoneIsRefused {P : Type 0} (refused : ℕ → ℕ → Type 0) (task : TaskState) (entries : List (Option P)) (n : ℕ)
    : Type 0 where
  pub each : (turn : ℕ) → turn < n → entry_of entries turn ≡ None → refused (query_of task.queries turn) task.chunk

-- there is an entry for each query, and the engine refused each piece that is missing
pub record AllAnswered {P : Type 0} (refused : ℕ → ℕ → Type 0) (task : TaskState) (entries : List (Option P)) : Type 0 where
  pub full : length entries ≡ length task.queries
  pub none : NoneIsRefused refused task entries (length task.queries)

-- the engine refused each piece of the task
pub record RefusesAll (refused : ℕ → ℕ → Type 0) (task : TaskState) : Type 0 where
  pub each : (turn : ℕ) → turn < length task.queries → refused (query_of task.queries turn) task.chunk

-- there is no entry, as the engine had no memory for the list of the task's pieces
pub record NoneListed {P : Type 0} (unlisted : TaskState → Type 0) (task : TaskState) (entries : List (Option P)) : Type 0 where
  pub empty : entries ≡ []
  pub list : unlisted task

-- there is an entry for each query of a task, and the engine refused each piece that is missing; or there is no entry, as
-- it had no memory for their list
abbrev pub MissesRefused : {P : Type 0} → (ℕ → ℕ → Type 0) → (TaskState → Type 0) → TaskState → List (Option P) → Type 0
MissesRefused refused unlisted task entries = AllAnswered refused task entries ⊎ NoneListed unlisted task entries

-- only the entry of one query may have changed, and it is a piece unless the engine refused it
pub record Answered {P : Type 0} (refused : ℕ → ℕ → Type 0) (task : TaskState) (turn : ℕ) (old new : List (Option P))
    : Type 0 where
  pub beside : Beside old new turn
  pub none : turn < length task.queries → entry_of new turn ≡ None → refused (query_of task.queries turn) task.chunk

-- the engine refused a piece of the query
pub record IsRefused (refused : ℕ → ℕ → Type 0) (q : ℕ) : Type 0 where
  pub chunk : ℕ
  pub piece : refused q chunk

-- the engine had no memory for the list of a task that has the query
pub record IsUnlisted (unlisted : TaskState → Type 0) (q : ℕ) : Type 0 where
  pub task : TaskState
  pub asked : has task.queries q ≡ true
  pub list : unlisted task

-- a piece of the query and one chunk could not be absorbed by another piece
pub record IsNotAbsorbed {P : Type 0} (refuses : P → P → Type 0) (stands : ℕ → List ℕ → P → Type 0) (q : ℕ) : Type 0 where
  pub chunk : ℕ
  pub mine : P
  pub other : P
  pub stands_so : stands q (chunk ∷ []) other
  pub full : refuses mine other

-- the causes of the loss of a query: the engine refused a piece of it, or the list of a task that has it, or one piece
-- could not absorb a piece of it
abbrev pub MayLose : {P : Type 0} → (ℕ → ℕ → Type 0) → (TaskState → Type 0) → (P → P → Type 0) → (ℕ → List ℕ → P → Type 0)
    → ℕ → Type 0
MayLose refused unlisted refuses stands q = IsRefused refused q ⊎ IsUnlisted unlisted q ⊎ IsNotAbsorbed refuses stands q

-- each query that the later lines lose is one that the earlier lines lost, or one that may be lost
pub record LosesOnly (may : ℕ → Type 0) (old new : Journal) : Type 0 where
  pub each : (q : ℕ) → is_lost new q ≡ true → (is_lost old q ≡ true) ⊎ may q
