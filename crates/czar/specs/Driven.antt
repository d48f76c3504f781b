-- What a session over the board leaves, and what the end of each query depends on.
use Rattle.std.specs.Prelude.{◌≡◌, ℕ, List, length}
use Rattle.table_rules.specs.Objects.{Catalogue}
use Rattle.sky_rules.specs.Partition.{Partition, chunk_count}
use Rattle.scan_rules.specs.Lines.{seat_of}
use Rattle.scan_rules.specs.Queries.{Journal}
use Rattle.answer_rules.specs.Bases.{Base, StandsFor}
use Rattle.answer_rules.specs.Pieces.{PieceView}
use Rattle.turn_lock.specs.Ends.{AllHaveEnded}
use Rattle.turn_lock.specs.Seats.{Knows}
use Rattle.scan_board.specs.Calls.{BoardSeat}
use Rattle.session_script.specs.declared.step.Step.{Step}
use Rattle.scan_session.specs.Drove.{AreEnds}
use Rattle.scan_session.specs.Laws.{AreDriven}
use Rattle.scan_session.specs.Plans.{Plans}
use Rattle.scan_session.specs.declared.end.End.{End as BoardEnd}
use Rattle.query_ends.specs.Attached.{planned_for}
use Rattle.czar.specs.Attached.{base_of, first_object_piece}
use Rattle.czar.specs.QueryPlans.{Plan}

-- the chunks that are planned for each query, by its plan
abbrev pub chunks_planned : List Plan → Plans
chunks_planned plans = planned_for first_object_piece plans

-- These journals justify these ends, in a session with the given number of workers whose queries have these plans. Each
-- query has the journal of its board, and what is planned for the queries of that board.
pub record IsDrivenBy (workers : ℕ) (g : Partition) (c : Catalogue) (steps : List Step) (plans : List Plan)
    (of_board : ℕ → Plans) (seen : ℕ → Journal) (ends : List (BoardEnd PieceView)) : Type 0 where
  pub driven : AreDriven workers (chunks_planned plans) steps (chunk_count g) of_board seen
  pub each : length ends ≡ length plans
  pub are : AreEnds (StandsFor (base_of g c plans)) (chunks_planned plans) seen ends

-- some journals of the queries' boards justify these ends
pub record IsDriven (workers : ℕ) (g : Partition) (c : Catalogue) (steps : List Step) (plans : List Plan)
    (ends : List (BoardEnd PieceView)) : Type 0 where
  pub of_board : ℕ → Plans
  pub seen : ℕ → Journal
  pub by : IsDrivenBy workers g c steps plans of_board seen ends

-- the czar's participant of a board over the chunks of a sky plan, once all others have ended in it
pub record IsJoined (g : Partition) (seat : BoardSeat Base) : Type 0 where
  pub first : seat.number ≡ 0
  pub known : Knows seat_of seat
  pub ended : AllHaveEnded seat
  pub ring : seat.root.ring ≡ chunk_count g

-- A session over one board that is over: all others have ended in the czar's participant, and the journal that it has
-- seen justifies the ends.
pub record IsOver (workers : ℕ) (g : Partition) (c : Catalogue) (steps : List Step) (plans : List Plan)
    (seat : BoardSeat Base) (ends : List (BoardEnd PieceView)) : Type 0 where
  pub joined : IsJoined g seat
  pub by : IsDrivenBy workers g c steps plans (λ q. chunks_planned plans) (λ q. seat.seen) ends
