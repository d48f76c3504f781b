-- The ends of a session over two boards are in the states of the journals of the queries' boards.
use Rattle.std.proofs.Common.{◌≡◌, sym, subst, ℕ, List, Ok, Err, Result, IfOk, map}
use Rattle.table_rules.specs.Objects.{Catalogue}
use Rattle.sky_io.specs.declared.Memory.{Memory}
use Rattle.sky_rules.specs.Partition.{Partition}
use Rattle.answer_rules.specs.Pieces.{PieceView}
use Rattle.scan_rules.specs.Queries.{Journal}
use Rattle.session_script.specs.declared.step.Step.{Step}
use Rattle.scan_session.specs.Plans.{Plans}
use Rattle.scan_session.specs.declared.end.End.{End as BoardEnd}
use Rattle.czar.specs.Driven.{IsDrivenBy}
use Rattle.czar.specs.Ended.{AreEnded}
use Rattle.query_ends.specs.Ends.{kind_of}
use Rattle.query_ends.specs.States.{AreEndsIn}
use Rattle.query_ends.specs.declared.end.End.{End}
use Rattle.czar.specs.QueryPlans.{Plan}
use Rattle.czar.proofs.Tracing.{session_ends_in}

-- what holds anyway holds if a result is Ok
pub if_ok : {V : Type 0} {A : Type 0} (r : Result V Memory) → A → IfOk r (λ v. A)
if_ok (Ok v) a = a
if_ok (Err m) a = tt

-- under any names of the plans and of the ends at the boards
pub ends_in_states : {V : Type 0} {workers : ℕ} {g : Partition} {c : Catalogue} {steps : List Step} {plans same : List Plan}
    {of_board : ℕ → Plans} {seen : ℕ → Journal} {ends given : List (BoardEnd PieceView)} → IsDrivenBy workers g c steps plans of_board seen ends
    → (items : V → List End) (r : Result V Memory) → plans ≡ same → ends ≡ given
    → IfOk r (λ v. AreEnded same given (items v)) → IfOk r (λ v. AreEndsIn seen (map kind_of (items v)))
ends_in_states {V} {workers} {g} {c} {steps} {plans} {same} {of_board} {seen} {ends} {given} by items (Ok v) is are ended =
    session_ends_in (items v) by
    (subst (λ (l : List Plan). AreEnded l ends (items v)) (sym is)
    (subst (λ (l : List (BoardEnd PieceView)). AreEnded same l (items v)) (sym are) ended))
ends_in_states {V} {workers} {g} {c} {steps} {plans} {same} {of_board} {seen} {ends} {given} by items (Err m) is are ended = tt
