-- What a session leaves once its workers were joined.
use Rattle.std.proofs.Common.{◌≡◌, ◌∙◌, sym, ap, refl, subst, ℕ, Bool, true, None, arith, List, length, map, Ok, Err, Result, IfOk, Option, Vec, vec_len}
use Rattle.std.proofs.lemmas.Bool.{cond-true}
use Rattle.table_rules.specs.Objects.{Catalogue}
use Rattle.sky_io.specs.declared.Memory.{Memory}
use Rattle.sky_rules.specs.Partition.{Partition, chunk_count}
use Rattle.scan_rules.specs.Queries.{Journal}
use Rattle.scan_rules.specs.Runs.{IsRun}
use Rattle.answer_rules.specs.Bases.{Asks, Base, StandsFor}
use Rattle.answer_rules.specs.Pieces.{PieceView}
use Rattle.std.proofs.lemmas.List.{length-map}
use Rattle.scan_board.specs.Calls.{BoardSeat}
use Rattle.session_script.specs.declared.step.Step.{Step}
use Rattle.scan_session.specs.Crews.{Manned}
use Rattle.scan_session.specs.Drove.{AreEnds, Drove}
use Rattle.scan_session.specs.KnownEnds.{plan_in}
use Rattle.scan_session.specs.Places.{only, over_root, seen_of}
use Rattle.scan_session.specs.Plans.{Plans}
use Rattle.scan_session.specs.declared.end.End.{End as BoardEnd}
use Rattle.scan_session.specs.declared.end.Planned.{Planned as Attachable}
use Rattle.czar.specs.Attached.{attached, base_of}
use Rattle.czar.specs.Driven.{IsDriven, IsDrivenBy, IsJoined, IsOver, chunks_planned}
use Rattle.czar.specs.QueryPlans.{Plan}

-- ---- over some boards

-- what was attached for the queries is what their plans say
pub drove_over : {L Y Z : Type 0} (workers : ℕ) (steps ran : List Step) (plans : List Plan) (planned : Vec (Option (Attachable PieceView)) Y)
    (has : L → ℕ → Bool) (new : L → BoardSeat Base) (r : Result (Vec (BoardEnd PieceView) Z) Memory)
    → ran ≡ steps → planned.items ≡ map attached plans
    → IfOk r (λ v. (p : L) → Drove workers (only (has p) (plan_in planned.items)) ran (new p).seen)
    → IfOk r (λ v. (p : L) → Drove workers (only (has p) (chunks_planned plans)) steps (new p).seen)
drove_over workers steps ran plans planned has new (Ok v) same made drove = λ p.
    subst (λ (l : List (Option (Attachable PieceView))). Drove workers (only (has p) (plan_in l)) steps (new p).seen) made
    (subst (λ (ss : List Step). Drove workers (only (has p) (plan_in planned.items)) ss (new p).seen) same (drove p))
drove_over workers steps ran plans planned has new (Err m) same made drove = tt

-- pieces stand for the same over each of the boards, whose roots are one
one_base : {L : Type 0} (base : Base) (ring : ℕ) (home : ℕ → L) (seats : L → BoardSeat Base)
    → ((p : L) → (seats p).root ≡ record { root = base; ring = ring })
    → ◌≡◌ {A = ℕ → List ℕ → PieceView → Type 0} (over_root StandsFor home seats) (StandsFor base)
one_base base ring home seats root = λ k q. StandsFor (ap (λ b. b.root) (root (home q)) k) q

-- the journals that the czar's participants have seen justify the ends
pub driven_by : {L Y Z : Type 0} (workers : ℕ) (g : Partition) (c : Catalogue) (steps ran : List Step) (plans : List Plan)
    (planned : Vec (Option (Attachable PieceView)) Y) (has : L → ℕ → Bool) (home : ℕ → L) (old new : L → BoardSeat Base)
    (r : Result (Vec (BoardEnd PieceView) Z) Memory)
    → ran ≡ steps → planned.items ≡ map attached plans
    → ((p : L) → (old p).root ≡ record { root = base_of g c plans; ring = chunk_count g })
    → ((q : ℕ) → has (home q) q ≡ true) → ((p : L) → Manned Asks (old p) (new p))
    → IfOk r (λ v. (p : L) → Drove workers (only (has p) (plan_in planned.items)) ran (new p).seen)
    → IfOk r (λ v. vec_len v ≡ vec_len planned)
    → IfOk r (λ v. AreEnds (over_root StandsFor home old) (plan_in planned.items) (seen_of home new) v.items)
    → IfOk r (λ v. IsDrivenBy workers g c steps plans (λ q. only (has (home q)) (chunks_planned plans)) (seen_of home new) v.items)
driven_by workers g c steps ran plans planned has home old new (Ok v) same made root housed manned drove each ends = record {
  driven = record {
    run = λ q. let m = manned (home q) in
        subst (λ n. IsRun n (new (home q)).seen) (ap (λ b. b.ring) (m.root ∙ root (home q))) m.lawful.run.run;
    drove = λ q. drove_over workers steps ran plans planned has new (Ok v) same made drove (home q);
    here = λ q. cond-true (has (home q) q) (chunks_planned plans q) None (housed q);
  };
  each = sym v.ok.0 ∙ each ∙ planned.ok.0 ∙ ap length made ∙ length-map plans attached;
  are = subst (λ (l : List (Option (Attachable PieceView))). AreEnds (StandsFor (base_of g c plans)) (plan_in l) (seen_of home new) v.items) made
      (subst (λ (stands : ℕ → List ℕ → PieceView → Type 0). AreEnds stands (plan_in planned.items) (seen_of home new) v.items)
      (one_base (base_of g c plans) (chunk_count g) home old root) ends);
}
driven_by workers g c steps ran plans planned has home old new (Err m) same made root housed manned drove each ends = tt

-- ---- over one board

-- the participants that were split off have ended in the czar's
joined : (g : Partition) (base : Base) (old new : BoardSeat Base) → old.made ≡ 1
    → old.root ≡ record { root = base; ring = chunk_count g } → Manned Asks old new → IsJoined g new
joined g base old new one root manned = record {
  first = manned.first;
  known = manned.known;
  ended = record {
    each = λ n low high. let kept = manned.crew n (omega (arith, one, low)) high in (kept.lines, kept.kept);
  };
  ring = ap (λ b. b.ring) manned.root ∙ ap (λ b. b.ring) root;
}

-- the czar's participant has seen the journal that justifies the ends
pub over : {Y Z : Type 0} (workers : ℕ) (g : Partition) (c : Catalogue) (steps ran : List Step) (plans : List Plan)
    (planned : Vec (Option (Attachable PieceView)) Y) (old new : BoardSeat Base) (r : Result (Vec (BoardEnd PieceView) Z) Memory)
    → ran ≡ steps → planned.items ≡ map attached plans → old.made ≡ 1
    → old.root ≡ record { root = base_of g c plans; ring = chunk_count g } → Manned Asks old new
    → IfOk r (λ v. Unit {0} → Drove workers (plan_in planned.items) ran new.seen)
    → IfOk r (λ v. vec_len v ≡ vec_len planned)
    → IfOk r (λ v. AreEnds (StandsFor old.root.root) (plan_in planned.items) (λ q. new.seen) v.items)
    → IfOk r (λ v. IsOver workers g c steps plans new v.items)
over workers g c steps ran plans planned old new (Ok v) same made one root manned drove each ends = record {
  joined = joined g (base_of g c plans) old new one root manned;
  by = driven_by workers g c steps ran plans planned (λ (p : Unit {0}) q. true) (λ q. tt) (λ p. old) (λ p. new) (Ok v)
      same made (λ p. root) (λ q. refl) (λ p. manned) drove each ends;
}
over workers g c steps ran plans planned old new (Err m) same made one root manned drove each ends = tt

-- what holds of an Ok result holds of its value
pub of_value : {V : Type 0} {r : Result V Memory} {v : V} (holds : V → Type 0) → r ≡ Ok v → IfOk r holds → holds v
of_value {V} holds is h = subst (λ (r : Result V Memory). IfOk r holds) is h

-- some journals justify the ends of a session, under any names of its plans and its ends
pub driven : {workers : ℕ} {g : Partition} {c : Catalogue} {steps : List Step} {plans same : List Plan} {of_board : ℕ → Plans}
    {seen : ℕ → Journal} {ends given : List (BoardEnd PieceView)} → IsDrivenBy workers g c steps plans of_board seen ends
    → plans ≡ same → ends ≡ given → IsDriven workers g c steps same given
driven {workers} {g} {c} {steps} {plans} {same} {of_board} {seen} {ends} {given} by is are =
    subst (λ (l : List Plan). IsDriven workers g c steps l given) is
    (subst (λ (l : List (BoardEnd PieceView)). IsDriven workers g c steps plans l) are (record { of_board = of_board; seen = seen; by = by }))
