-- What a session promises in the end, from what its crew leaves.
use Rattle.std.proofs.Common.{◌≡◌, ℕ, List, [], length, Bool, true, Option, sym, ◌∙◌, subst, arith}
use Rattle.scan_rules.specs.Queries.{wanted}
use Rattle.session_script.specs.declared.step.Step.{Step}
use Rattle.session_script.specs.Laws.{NumberedFrom}
use Rattle.session_script.specs.Scripts.{query_count}
use Rattle.scan_board.specs.Calls.{BoardSeat}
use Rattle.scan_session.specs.Drove.{AreEnds}
use Rattle.scan_session.specs.Places.{only, over_root, seen_of, AllStand}
use Rattle.scan_session.specs.Goes.{IsScript}
use Rattle.scan_session.specs.KnownEnds.{plan_in, known_in, AreKnown, MarksPlans}
use Rattle.scan_session.specs.Crews.{MannedBy, Promises}
use Rattle.scan_session.specs.Czars.{Ran}
use Rattle.scan_session.specs.declared.end.Planned.{Planned}
use Rattle.scan_session.specs.declared.end.End.{End}
use Rattle.scan_session.specs.declared.end.End.TheVariants.{Refused}
use Rattle.scan_session.specs.declared.end.Outcome.{Outcome}
use Rattle.scan_session.specs.declared.end.Outcome.TheVariants.{Went}
use Rattle.scan_session.proofs.Listing.{marks_on}
use Rattle.scan_session.proofs.Numbering.{numbered_is_script}
use Rattle.scan_session.proofs.Placing.{here_is}
use Rattle.scan_session.proofs.Finishing.{promises, all_planned}
use Rattle.scan_session.proofs.Beginning.{marks_first, ready_first, going_first, pieces_first, refused_first, room_first}
use Rattle.scan_session.proofs.Showing.{ends_are}

-- the steps are a script of as many queries as there are plans
pub script_of : (count : ℕ) (steps : List Step) → NumberedFrom 0 steps → count ≡ query_count steps → IsScript count steps
script_of count steps numbered each = subst (λ n. IsScript n steps) (sym each) (numbered_is_script steps numbered)

module _ {R L P : Type 0} (asks : R → ℕ → ℕ → Type 0) (stands : R → ℕ → List ℕ → P → Type 0) (workers : ℕ) (may : ℕ → Type 0) (has : L → ℕ → Bool) (home : ℕ → L) (old new : L → BoardSeat R) (plans : List (Option (Planned P))) (first known : List (Option (End P))) (steps : List Step) (outcome : Outcome)
    (numbered : NumberedFrom 0 steps) (each : length plans ≡ query_count steps) (len : length first ≡ length plans) (marks : MarksPlans plans first) (manned : (p : L) → MannedBy asks may workers (old p) (new p)) (ran : Ran stands has home old new plans first known steps outcome) where
  count : length known ≡ query_count steps
  count = ran.learns.more.len ∙ (len ∙ each)

  pub session_promises : ((p : L) → (old p).made ≡ 1) → ((p : L) → (old p).seen ≡ []) → Promises workers has (plan_in plans) steps new (known_in known) outcome
  session_promises one none =
      let begin = marks_first plans first marks in
      promises asks workers has old new one (λ p. (manned p).manned) (λ p. (manned p).made) (plan_in plans) steps (known_in known) outcome numbered (λ few. room_first plans (omega (arith, few, each)))
      (λ went. all_planned (plan_in plans) steps known (script_of (length known) steps numbered count) (marks_on (plan_in plans) first known ran.learns.more begin) (ran.known went))
      (ran.leaves (plan_in plans) begin (ready_first plans) (going_first has plans first old marks none))

  pub session_ends : (ends : List (End P)) → ((q : ℕ) → has (home q) q ≡ true) → Promises workers has (plan_in plans) steps new (known_in known) Went
      → AreKnown known ends → AreEnds (over_root stands home old) (plan_in plans) (seen_of home new) ends
  session_ends ends housed p are =
      let same = ran.learns.more.len in
      let w : AllStand stands home new known = ran.learns.whole (pieces_first (over_root stands home old) plans first (seen_of home old) marks) in
      ends_are (over_root stands home old) workers (plan_in plans) steps (λ q. only (has (home q)) (plan_in plans)) (seen_of home new) known ends (script_of (length known) steps numbered count)
      (λ q. here_is (has (home q)) (plan_in plans) q (housed q)) (λ q. (p (home q)).0) (λ q a. sym (here_is (has (home q)) (known_in known) q (housed q)) ∙ (p (home q)).1 q a)
      (λ q from low none. ran.learns.more.stay q Refused (refused_first plans first marks q from (omega (arith, low, same)) none))
      (record {
        each = λ q piece at. let s = w.each q piece at in record {
          attached = s.attached;
          whole = subst (λ r. stands r.root q (wanted (seen_of home new q) q) piece) (manned (home q)).manned.root s.whole;
        };
      }) are
