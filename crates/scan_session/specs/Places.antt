-- What holds at the place of each board of a session, of the queries whose board is there.
use Rattle.std.specs.Prelude.{◌≡◌, ℕ, List, Bool, true, false, cond, Option, Some, None}
use Rattle.atomic_table.specs.Seated.{TableId}
use Rattle.scan_rules.specs.Queries.{Journal, QueryState}
use Rattle.session_script.specs.declared.step.Step.{Step}
use Rattle.scan_board.specs.Calls.{BoardSeat}
use Rattle.scan_session.specs.Plans.{Plans, AllRunAtOnce}
use Rattle.scan_session.specs.Driven.{Driving, Going, has_foreign}
use Rattle.scan_session.specs.Seats.{IsCzar}
use Rattle.scan_session.specs.KnownEnds.{at_query, PiecesStand, PlansFit}
use Rattle.scan_session.specs.declared.end.End.{End}
use Rattle.scan_session.specs.declared.end.Planned.{Planned}

-- what is known of the queries of one board
abbrev pub only : {X : Type 0} → (ℕ → Bool) → (ℕ → Option X) → ℕ → Option X
only here f q = cond (here q) (f q) None

-- the czar's participants: one of each board, under its lock, with the root of the engine
pub record AreCzars {R L : Type 0} (asks : R → ℕ → ℕ → Type 0) (locks : L → TableId) (root : R) (seats : L → BoardSeat R) : Type 0 where
  pub own : (p : L) → (seats p).turn ≡ locks p
  pub czar : (p : L) → IsCzar asks (seats p)
  pub engine : (p : L) → root ≡ (seats p).root.root

-- at no board did a participant other than the czar attach, cancel, collect or close
pub record AreClean {R L : Type 0} (seats : L → BoardSeat R) : Type 0 where
  pub each : (p : L) → has_foreign (seats p).seen ≡ false

-- at some board one did
abbrev pub SomeForeign : {R L : Type 0} → (L → BoardSeat R) → Type 0
SomeForeign {R} {L} seats = (p : L) × (has_foreign (seats p).seen ≡ true)

-- all planned queries can run at once, and no participant other than the czar did what only the czar does
pub record HasRoom {R L : Type 0} (plan : Plans) (seats : L → BoardSeat R) : Type 0 where
  pub low : AllRunAtOnce plan
  pub clean : AreClean seats

-- the lines seen of each board are driven, of the queries of that board
abbrev pub DrivingAll : {R L : Type 0} → (L → ℕ → Bool) → Plans → List Step → (L → BoardSeat R) → (ℕ → Option QueryState) → Type 0
DrivingAll {R} {L} has plan done seats ends =
    (p : L) → Driving (HasRoom plan seats) (only (has p) plan) done (seats p).seen (only (has p) ends)

-- they are driven between two steps
abbrev pub GoingAll : {R L : Type 0} → (L → ℕ → Bool) → Plans → List Step → (L → BoardSeat R) → (ℕ → Option QueryState) → Type 0
GoingAll {R} {L} has plan done seats ends =
    (p : L) → Going (HasRoom plan seats) (only (has p) plan) done (seats p).seen (only (has p) ends)

-- the chunks of each query that is planned suit its board
abbrev pub AllSuit : {P : Type 0} → (ℕ → List ℕ → Type 0) → List (Option (Planned P)) → Type 0
AllSuit {P} suits plans = (q : ℕ) (planned : Planned P) → at_query plans q ≡ Some planned → suits q planned.chunks

-- each query that is planned may be attached, and its chunks suit its board
pub record AllFit {R L P : Type 0} (stands : R → ℕ → List ℕ → P → Type 0) (asks : R → ℕ → ℕ → Type 0)
    (suits : ℕ → List ℕ → Type 0) (seats : L → BoardSeat R) (plans : List (Option (Planned P))) : Type 0 where
  pub fit : (p : L) → PlansFit stands asks (seats p).root.ring (seats p).root.root plans
  pub suit : AllSuit suits plans

-- the lines seen of a query's board
abbrev pub seen_of : {R L : Type 0} → (ℕ → L) → (L → BoardSeat R) → ℕ → Journal
seen_of home seats q = (seats (home q)).seen

-- what a piece represents, over the root of its query's board
abbrev pub over_root : {R L P : Type 0} → (R → ℕ → List ℕ → P → Type 0) → (ℕ → L) → (L → BoardSeat R) → ℕ → List ℕ → P → Type 0
over_root stands home seats q = stands (seats (home q)).root.root q

-- each answer represents all the chunks of its query, at the query's board
abbrev pub AllStand : {R L P : Type 0} → (R → ℕ → List ℕ → P → Type 0) → (ℕ → L) → (L → BoardSeat R) → List (Option (End P)) → Type 0
AllStand stands home seats ends = PiecesStand (over_root stands home seats) (seen_of home seats) ends
