-- What a part of a session leaves, by how it ends.
use Rattle.std.specs.Prelude.{◌≡◌, ℕ, ◌≤◌, List, [], ◌∷◌, ◌++◌, Bool, true, false, Option, Some, None}
use Rattle.std.specs.List.{list_any}
use Rattle.scan_rules.specs.Queries.{QueryState}
use Rattle.scan_rules.specs.Runs.{MayAttach}
use Rattle.scan_board.specs.Calls.{BoardSeat}
use Rattle.sql_token.specs.declared.token.Span.{Span}
use Rattle.session_script.specs.declared.step.Step.{Step}
use Rattle.session_script.specs.declared.step.Step.TheVariants.{Query, Wait, Cancel as CancelStep}
use Rattle.session_rules.specs.Ends.{asks}
use Rattle.scan_session.specs.Plans.{Plans}
use Rattle.scan_session.specs.KnownEnds.{state_by, with_end}
use Rattle.scan_session.specs.Places.{DrivingAll, GoingAll, SomeForeign}
use Rattle.scan_session.specs.declared.end.End.{End}
use Rattle.scan_session.specs.declared.end.Outcome.{Outcome}
use Rattle.scan_session.specs.declared.end.Outcome.TheVariants.{Went, Memory, Odd}
use Rattle.scan_session.specs.declared.end.Tried.{Tried}
use Rattle.scan_session.specs.declared.end.Tried.TheVariants as tried
use Rattle.scan_session.specs.declared.end.Told.{Told}
use Rattle.scan_session.specs.declared.end.Told.TheVariants as told

-- the step asks a planned query, and the query's board has room for it: it may be attached there with its chunks
pub record HasRoomFor {R L : Type 0} (home : ℕ → L) (plan : Plans) (seats : L → BoardSeat R) (step : Step) : Type 0 where
  pub q : ℕ
  pub span : Span
  pub asks_it : step ≡ Query q span
  pub chunks : List ℕ
  pub planned : plan q ≡ Some chunks
  pub may : MayAttach (seats (home q)).root.ring (seats (home q)).seen q chunks

-- these steps are run and the next one is not, for which there was room
pub record StopsAt {R L : Type 0} (has : L → ℕ → Bool) (home : ℕ → L) (plan : Plans) (done : List Step) (step : Step)
    (seats : L → BoardSeat R) (ends : ℕ → Option QueryState) : Type 0 where
  pub ran : GoingAll has plan done seats ends
  pub room : HasRoomFor home plan seats step

-- the script stopped at one of its steps, for which there was room
pub record StopsWithRoom {R L : Type 0} (has : L → ℕ → Bool) (home : ℕ → L) (plan : Plans) (steps : List Step)
    (seats : L → BoardSeat R) (ends : ℕ → Option QueryState) : Type 0 where
  pub done : List Step
  pub step : Step
  pub rest : List Step
  pub cut : steps ≡ done ++ step ∷ rest
  pub stops : StopsAt has home plan done step seats ends

-- The first holds if the part ran to its end. The second holds if it is out of memory: there was room for the query that it
-- was to attach, as a full board is no lack of memory. Odd occurs only if another participant did what only the czar does.
abbrev pub Goes : {R L : Type 0} → Type 0 → Type 0 → (L → BoardSeat R) → Outcome → Type 0
Goes holds room seats Went = holds
Goes holds room seats Memory = room
Goes holds room seats Odd = SomeForeign seats

-- what an attempt to attach leaves: all is as before if the board is full, or if it is out of memory
abbrev pub GoesTried : {R L P : Type 0} → (L → ℕ → Bool)
    → Plans → List Step → Step → (L → BoardSeat R) → (ℕ → Option QueryState) → Tried P → Type 0
GoesTried has plan done step seats ends tried.Attached = GoingAll has plan (done ++ step ∷ []) seats ends
GoesTried has plan done step seats ends (tried.Full planned) = GoingAll has plan done seats ends
GoesTried has plan done step seats ends tried.Memory = GoingAll has plan done seats ends
GoesTried has plan done step seats ends tried.Odd = SomeForeign seats

-- out of memory is answered only if the board had room for the query: a full board is none
abbrev pub TriesWithRoom : {R P : Type 0} → BoardSeat R → ℕ → List ℕ → Tried P → Type 0
TriesWithRoom seat q chunks tried.Memory = MayAttach seat.root.ring seat.seen q chunks
TriesWithRoom seat q chunks _ = Unit {0}

-- so it is at the end of the attempts
abbrev pub StartsWithRoom : {R : Type 0} → BoardSeat R → ℕ → List ℕ → Outcome → Type 0
StartsWithRoom seat q chunks Memory = MayAttach seat.root.ring seat.seen q chunks
StartsWithRoom seat q chunks _ = Unit {0}

-- asking for a query's end makes it known, or leaves all as before
abbrev pub GoesTold : {R L P : Type 0} → (L → ℕ → Bool)
    → Plans → List Step → (L → BoardSeat R) → (ℕ → Option QueryState) → ℕ → Told P → Type 0
GoesTold has plan done seats ends q (told.Ended end) = DrivingAll has plan done seats (with_end ends q (state_by (Some end)))
GoesTold has plan done seats ends q told.NotYet = DrivingAll has plan done seats ends
GoesTold has plan done seats ends q told.Odd = SomeForeign seats

-- what is left by an end that is learned, or by a result that cannot occur
abbrev pub GoesEnded : {R L P : Type 0} → (L → ℕ → Bool)
    → Plans → List Step → (L → BoardSeat R) → (ℕ → Option QueryState) → ℕ → Option (End P) → Type 0
GoesEnded has plan done seats ends q (Some end) = DrivingAll has plan done seats (with_end ends q (state_by (Some end)))
GoesEnded has plan done seats ends q None = SomeForeign seats

-- the number that a step names
abbrev pub number_of : Step → ℕ
number_of (Query q span) = q
number_of (Wait q) = q
number_of (CancelStep q) = q

-- a step that asks a query that none of these steps asks, or is about one that one of them asks
abbrev pub IsNext : List Step → Step → Type 0
IsNext done (Query q span) = list_any (asks q) done ≡ false
IsNext done (Wait q) = list_any (asks q) done ≡ true
IsNext done (CancelStep q) = list_any (asks q) done ≡ true

-- a script of `count` queries, with numbers from 1: each step asks a query that no step before it asks, or is about one
-- that is asked before it
pub record IsScript (count : ℕ) (steps : List Step) : Type 0 where
  pub next : (a : List Step) (step : Step) (b : List Step) → steps ≡ a ++ step ∷ b → IsNext a step
  pub from_1 : (a : List Step) (step : Step) (b : List Step) → steps ≡ a ++ step ∷ b → 1 ≤ number_of step
  pub low : (a : List Step) (step : Step) (b : List Step) → steps ≡ a ++ step ∷ b → number_of step ≤ count
  pub all : (q : ℕ) → 1 ≤ q → q ≤ count → list_any (asks q) steps ≡ true
