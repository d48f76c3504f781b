-- What a session leaves once its workers were joined.
use Rattle.std.proofs.Common.{◌≡◌, ◌∙◌, sym, ap, refl, subst, ℕ, true, List, length, map, Ok, Err, Result, IfOk, Option, Vec, vec_len}
use Rattle.std.proofs.lemmas.List.{length-map}
use Rattle.sky_io.specs.declared.Memory.{Memory}
use Rattle.scan_rules.specs.Runs.{IsRun}
use Rattle.answer_rules.specs.Pieces.{PieceView}
use Rattle.turn_lock.specs.Seats.{first_seat}
use Rattle.atomic_table.specs.Seated.{TableId}
use Rattle.scan_core.specs.declared.board_root.BoardRoot.{BoardRoot}
use Rattle.scan_board.specs.Calls.{AnswersClose, BoardSeat, Called}
use Rattle.session_script.specs.declared.step.Step.{Step}
use Rattle.scan_session.specs.Crews.{Manned}
use Rattle.scan_session.specs.Drove.{AreEnds, Drove}
use Rattle.scan_session.specs.KnownEnds.{plan_in}
use Rattle.scan_session.specs.declared.end.End.{End as BoardEnd}
use Rattle.scan_session.specs.declared.end.Planned.{Planned as Attachable}
use Rattle.scan_session.proofs.Closing.{is_closed_now, stays_all}
use Rattle.scan_session.proofs.Finishing.{first_czars}
use Rattle.scan_session.proofs.Manning.{manned_alone}
use Rattle.child_rules.specs.ChildBases.{ChildAsks, ChildBase, ChildStands}
use Rattle.child_session.specs.ChildAttached.{child_attached, child_base_of, child_board_of, child_chunks_planned}
use Rattle.child_session.specs.ChildDriven.{IsChildDriven}
use Rattle.child_session.specs.ChildSurvey.{ChildSurvey}
use Rattle.child_session.specs.declared.plan.ChildPlan.{ChildPlan}

-- the czar's participant has seen the journal that justifies the ends
pub driven : {Y Z : Type 0} (workers : ℕ) (t : ChildSurvey) (steps ran : List Step) (plans : List ChildPlan)
    (planned : Vec (Option (Attachable PieceView)) Y) (old new : BoardSeat ChildBase) (r : Result (Vec (BoardEnd PieceView) Z) Memory)
    → ran ≡ steps → planned.items ≡ map child_attached plans
    → old.root ≡ child_board_of t plans → Manned ChildAsks old new
    → IfOk r (λ v. Unit {0} → Drove workers (plan_in planned.items) ran new.seen)
    → IfOk r (λ v. vec_len v ≡ vec_len planned)
    → IfOk r (λ v. AreEnds (ChildStands old.root.root) (plan_in planned.items) (λ q. new.seen) v.items)
    → IfOk r (λ v. IsChildDriven workers t steps plans new.seen v.items)
driven workers t steps ran plans planned old new (Ok v) same made root manned drove each ends =
    let shows : Drove workers (child_chunks_planned plans) steps new.seen =
    subst (λ (l : List (Option (Attachable PieceView))). Drove workers (plan_in l) steps new.seen) made
    (subst (λ (ss : List Step). Drove workers (plan_in planned.items) ss new.seen) same (drove tt)) in
    record {
      driven = record {
        run = λ q. subst (λ n. IsRun n new.seen) (ap (λ b. b.ring) (manned.root ∙ root)) manned.lawful.run.run;
        drove = λ q. shows;
        here = λ q. refl;
      };
      each = sym v.ok.0 ∙ each ∙ planned.ok.0 ∙ ap length made ∙ length-map plans child_attached;
      are = subst (λ (l : List (Option (Attachable PieceView))). AreEnds (ChildStands (child_base_of t plans)) (plan_in l) (λ q. new.seen) v.items) made
          (subst (λ (b : ChildBase). AreEnds (ChildStands b) (plan_in planned.items) (λ q. new.seen) v.items) (ap (λ b. b.root) root) ends);
    }
driven workers t steps ran plans planned old new (Err m) same made root manned drove each ends = tt

-- what holds at each board of a session over one holds at that board
pub at_board : {V : Type 0} (A : Type 0) (r : Result V Memory) → IfOk r (λ v. Unit {0} → A) → IfOk r (λ v. A)
at_board A (Ok v) each = each tt
at_board A (Err m) each = tt

-- a first participant is the first one over its own root
pub own_root : (turn : TableId) (seat : BoardSeat ChildBase) (root : BoardRoot ChildBase) → seat ≡ first_seat turn root → seat ≡ first_seat turn seat.root
own_root turn seat root first = first ∙ ap (first_seat turn) (sym (ap (λ s. s.root) first))

-- once the board is closed without a session
pub closed_manned : (turn : TableId) (old new : BoardSeat ChildBase) → old ≡ first_seat turn old.root
    → Called ChildAsks (AnswersClose old.number) old new → Manned ChildAsks old new
closed_manned turn old new first called =
    let czars =
    first_czars ChildAsks (λ (p : Unit {0}). turn) old.root.root (λ p. old)
    (λ p. ap (λ s. s.turn) first)
    (λ p. (ap (λ s. s.number) first, ap (λ s. s.seen) first, ap (λ s. s.mine) first, ap (λ s. s.made) first))
    (λ p. called.lawful.small)
    (λ p. refl) in
    let stays = stays_all ChildAsks (λ (o : Unit {0}) q. true) (λ p. old) (λ p. new) czars.czar (λ p. called) in
    manned_alone ChildAsks old new (stays (λ q. Unit {0}) tt) (is_closed_now ChildAsks old new called) called.known
