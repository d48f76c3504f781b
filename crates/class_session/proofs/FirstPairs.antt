-- The czar's pair, before a session and after it.
use Rattle.std.proofs.Common.{◌≡◌, ◌∙◌, sym, ap, ◌≤◌, true, arith, List, Ok, Err, Result, IfOk}
use Rattle.table_rules.specs.Objects.{Catalogue}
use Rattle.sky_io.specs.declared.Memory.{Memory}
use Rattle.sky_rules.specs.Partition.{Partition, chunk_count}
use Rattle.answer_rules.specs.Bases.{Asks, Base}
use Rattle.turn_lock.specs.Ends.{AllHaveEnded}
use Rattle.turn_lock.specs.Seats.{first_seat}
use Rattle.scan_core.specs.declared.board_root.BoardRoot.{BoardRoot}
use Rattle.scan_board.specs.Calls.{AnswersClose, Called}
use Rattle.scan_session.specs.Crews.{Manned}
use Rattle.scan_session.specs.Places.{AreCzars}
use Rattle.scan_session.proofs.Closing.{is_closed_now, stays_all}
use Rattle.scan_session.proofs.Finishing.{first_czars}
use Rattle.scan_session.proofs.Manning.{manned_alone}
use Rattle.scan_classes.specs.declared.class.Class.{Class}
use Rattle.scan_classes.specs.declared.class.Class.TheVariants.{Short, Long}
use Rattle.scan_classes.specs.Ends.{AllPairsHaveEnded}
use Rattle.scan_classes.specs.Pairs.{ClassTurns, PairSeat, seat_at, turn_at}
use Rattle.czar.specs.Attached.{base_of}
use Rattle.czar.specs.QueryPlans.{Plan}
use Rattle.class_session.specs.ClassPlans.{IsFirstPair}

-- two boards that were put under locks
pub first_if : {V : Type 0} (g : Partition) (c : Catalogue) (plans : List Plan) (root : BoardRoot Base) (turns : V → ClassTurns)
    (pair : V → PairSeat Base) (r : Result V Memory) → root ≡ record { root = base_of g c plans; ring = chunk_count g }
    → IfOk r (λ v. (pair v).short ≡ first_seat (turns v).short root) → IfOk r (λ v. (pair v).long ≡ first_seat (turns v).long root)
    → IfOk r (λ v. IsFirstPair g c plans (turns v) (pair v))
first_if g c plans root turns pair (Ok v) is short long =
    record { short = short ∙ ap (first_seat (turns v).short) is; long = long ∙ ap (first_seat (turns v).long) is }
first_if g c plans root turns pair (Err m) is short long = tt

module _ (g : Partition) (c : Catalogue) (plans : List Plan) (turns : ClassTurns) (old : PairSeat Base) (first : IsFirstPair g c plans turns old) where
  -- the participant of the board of each class
  pub first_at : (p : Class) → seat_at old p ≡ first_seat (turn_at turns p) (record { root = base_of g c plans; ring = chunk_count g })
  first_at Short = first.short
  first_at Long = first.long

  czars : ((p : Class) → (seat_at old p).root.ring ≤ 16384) → AreCzars Asks (turn_at turns) (base_of g c plans) (seat_at old)
  czars small = first_czars Asks (turn_at turns) (base_of g c plans) (seat_at old)
      (λ p. ap (λ s. s.turn) (first_at p))
      (λ p. let f = first_at p in (ap (λ s. s.number) f, ap (λ s. s.seen) f, ap (λ s. s.mine) f, ap (λ s. s.made) f))
      small
      (λ p. sym (ap (λ s. s.root.root) (first_at p)))

  -- once both boards are closed
  pub closed_manned : (new : PairSeat Base)
      → ((p : Class) → Called Asks (AnswersClose (seat_at old p).number) (seat_at old p) (seat_at new p))
      → (p : Class) → Manned Asks (seat_at old p) (seat_at new p)
  closed_manned new called p =
      let stays = stays_all Asks (λ o q. true) (seat_at old) (seat_at new) (czars (λ o. (called o).lawful.small)).czar called (λ q. Unit {0}) in
      manned_alone Asks (seat_at old p) (seat_at new p) (stays p) (is_closed_now Asks (seat_at old p) (seat_at new p) (called p)) (called p).known

  ended_at : (new : PairSeat Base) → ((p : Class) → Manned Asks (seat_at old p) (seat_at new p)) → (p : Class) → AllHaveEnded (seat_at new p)
  ended_at new manned p =
      let one = ap (λ s. s.made) (first_at p) in
      record { each = λ n low high. let kept = (manned p).crew n (omega (arith, one, low)) high in (kept.lines, kept.kept) }

  -- once the workers are joined
  pub pairs_ended : (new : PairSeat Base) → ((p : Class) → Manned Asks (seat_at old p) (seat_at new p)) → AllPairsHaveEnded new
  pairs_ended new manned = record { short = ended_at new manned Short; long = ended_at new manned Long }
