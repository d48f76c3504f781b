-- How the queries of an open task are begun, by the worker that has it and by others.
use Rattle.std.specs.Prelude.{◌≡◌, ℕ, ◌+◌, ◌≤◌, ◌<◌, ◌++◌, ◌⊎◌, List, [], ◌∷◌, Bool, true, false, Option, Some, None, length}
use Rattle.scan_rules.specs.Delivers.{query_of}
use Rattle.scan_core.specs.Boards.{TaskState}
use Rattle.scan_worker.specs.declared.open_task.Claim.{Claim}
use Rattle.scan_worker.specs.declared.open_task.Next.{Next}
use Rattle.scan_worker.specs.declared.open_task.Next.TheVariants.{Begin, Fetch, Wait, Over}
use Rattle.scan_worker.specs.Missing.{Answered}
use Rattle.scan_worker.specs.Opened.{Fetched, IsOver, MadeState, OpenState}

-- what the worker that has the task does next: the first query that is not begun is begun; else a piece that others
-- made is taken out; else it waits while others make pieces; else the task is over
abbrev pub AnswersNext : {P : Type 0} → OpenState P → Next (MadeState P) → OpenState P → Type 0
AnswersNext old (Begin turn) new =
    (turn < length old.queries) × (turn ≡ old.next) × (new ≡ record old { next = old.next + 1 })
AnswersNext old (Fetch made) new =
    (length old.queries ≤ old.next) × (old.made ≡ new.made ++ made ∷ []) × (new ≡ record old { made = new.made })
AnswersNext old Wait new = (length old.queries ≤ old.next) × (old.made ≡ []) × (1 ≤ old.away) × (new ≡ old)
AnswersNext old Over new = IsOver old × (new ≡ old)

-- the first query that is not begun is begun by another worker
pub record BeginsAway {P : Type 0} (old : OpenState P) (claim : Claim) (new : OpenState P) : Type 0 where
  pub low : claim.turn < length old.queries
  pub first : claim.turn ≡ old.next
  pub query : claim.q ≡ query_of old.queries claim.turn
  pub of : claim.chunk ≡ old.chunk
  pub begun : new ≡ record old { next = old.next + 1; away = old.away + 1 }

-- the result of a claim: None exactly if all queries are begun
abbrev pub Claims : {P : Type 0} → OpenState P → Option Claim → OpenState P → Type 0
Claims old (Some claim) new = BeginsAway old claim new
Claims old None new = (length old.queries ≤ old.next) × (new ≡ old)

-- how a step of the worker that has the task changes its entries; it is the last one exactly if the task is over
abbrev pub StepsOn : {P : Type 0}
    → (ℕ → ℕ → Type 0) → TaskState → Next (MadeState P) → List (Option P) → List (Option P) → Bool → Type 0
StepsOn refused task (Begin turn) old new more = (more ≡ true) × Answered refused task turn old new
StepsOn refused task (Fetch made) old new more = (more ≡ true) × Fetched task made old new
StepsOn refused task Wait old new more = (more ≡ true) × (new ≡ old)
StepsOn refused task Over old new more = (more ≡ false) × (new ≡ old)

-- a piece of a claim, for its position, query and chunk
abbrev pub made_of : {P : Type 0} → Claim → P → MadeState P
made_of claim piece = record { turn = claim.turn; q = claim.q; chunk = claim.chunk; piece = piece }

-- what the engine answered for a claim: a piece of its query and chunk, or it refused the piece
abbrev pub IsAnswered : {P : Type 0} → (ℕ → List ℕ → P → Type 0) → (ℕ → ℕ → Type 0) → Claim → Option P → Type 0
IsAnswered stands refused claim (Some piece) = stands claim.q (claim.chunk ∷ []) piece
IsAnswered stands refused claim None = refused claim.q claim.chunk

-- the engine was asked for a piece: it made the piece, or refused it
pub record IsAsked {P : Type 0} (stands : ℕ → List ℕ → P → Type 0) (refused : ℕ → ℕ → Type 0) : Type 0 where
  pub q : ℕ
  pub chunk : ℕ
  pub answer : ((piece : P) × stands q (chunk ∷ []) piece) ⊎ refused q chunk
