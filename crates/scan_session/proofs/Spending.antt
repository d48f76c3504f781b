-- Why a query ended out of memory.
use Rattle.std.proofs.Common.{◌≡◌, ℕ, ◌+◌, ◌≤◌, List, [], Bool, true, false, not, cond, Option, None, Some, ◌⊎◌, ⊎_elim, refl, subst, arith}
use Rattle.std.proofs.lemmas.Bool.{false≢true}
use Rattle.scan_rules.specs.Lines.{loses}
use Rattle.scan_rules.specs.Queries.{Journal, Fresh, Running, Done, Cancelled as CancelledState, Spent as SpentState}
use Rattle.scan_rules.specs.Queries.{is_attached, is_cancelled, is_complete, is_lost, state_of}
use Rattle.scan_board.specs.Calls.{BoardSeat}
use Rattle.scan_worker.specs.Missing.{LosesOnly}
use Rattle.scan_session.specs.Seats.{of_seat}
use Rattle.scan_session.specs.Plans.{Plans}
use Rattle.scan_session.specs.Drove.{AreEnds, IsEnd, SpendsOnly}
use Rattle.scan_session.specs.Places.{seen_of}
use Rattle.scan_session.specs.Crews.{MannedBy}
use Rattle.scan_session.specs.declared.end.End.{End}
use Rattle.scan_session.specs.declared.end.End.TheVariants.{Refused, Spent}
use Rattle.scan_session.proofs.Others.{seat_shows}
use Rattle.scan_session.proofs.Finishing.{all_low}

-- from no lines on, a query is lost only if it may be
from_none : (may : ℕ → Type 0) (lines : Journal) (q : ℕ) → LosesOnly may [] lines → is_lost lines q ≡ true → may q
from_none may lines q l h = ⊎_elim (λ was. absurd (false≢true was)) (λ m. m) (l.each q h)

zero_or : (n : ℕ) → (n ≡ 0) ⊎ (1 ≤ n)
zero_or n = grind arith

-- at a board, once all participants are joined
lost_at : {R : Type 0} (asks : R → ℕ → ℕ → Type 0) (may : ℕ → Type 0) (workers : ℕ) (old new : BoardSeat R) → old.made ≡ 1 → old.mine ≡ []
    → MannedBy asks may workers old new → (q : ℕ) → is_lost new.seen q ≡ true → may q
lost_at asks may workers old new one none m q h =
    let k = m.manned.known in
    let s = seat_shows (loses q) new.made new.seen (all_low new.made new.seen (k.above m.manned.first)) h in
    let n : ℕ = s.0 in
    ⊎_elim
    (λ z. let mine : of_seat 0 new.seen ≡ new.mine = subst (λ i. of_seat i new.seen ≡ new.mine) m.manned.first k.mine in
    let own : is_lost (of_seat 0 new.seen) q ≡ true = subst (λ i. is_lost (of_seat i new.seen) q ≡ true) z s.2 in
    from_none may new.mine q (subst (λ (l : Journal). LosesOnly may l new.mine) none m.lost) (subst (λ (l : Journal). is_lost l q ≡ true) mine own))
    (λ from. let c = m.causes n (omega (arith, one, from)) s.1 in
    from_none may c.lines q c.lost (subst (λ (l : Journal). is_lost l q ≡ true) (k.ended n c.lines c.kept).1 s.2))
    (zero_or n)

-- a query in the state of those that are out of memory is lost
spent_parts : (a c l w : Bool) → cond (not a) Fresh (cond c CancelledState (cond l SpentState (cond w Done Running))) ≡ SpentState → l ≡ true
spent_parts false c l w e = absurd (cc e)
spent_parts true true l w e = absurd (cc e)
spent_parts true false true w e = refl
spent_parts true false false true e = absurd (cc e)
spent_parts true false false false e = absurd (cc e)

spent_lost : (S : Journal) (q : ℕ) → state_of S q ≡ SpentState → is_lost S q ≡ true
spent_lost S q e = spent_parts (is_attached S q) (is_cancelled S q) (is_lost S q) (is_complete S q) e

not_refused : {P : Type 0} → ◌≡◌ {A = End P} Spent Refused → ⊥
not_refused e = cc

spent_is : {P : Type 0} (stands : ℕ → List ℕ → P → Type 0) (S : Journal) (q : ℕ) (planned : Option (List ℕ)) → IsEnd stands S q planned Spent → state_of S q ≡ SpentState
spent_is stands S q None e = absurd (not_refused e)
spent_is stands S q (Some chunks) e = e

-- the queries of a session that ended out of memory
pub spends_only : {R L P : Type 0} (asks : R → ℕ → ℕ → Type 0) (may : ℕ → Type 0) (workers : ℕ) (stands : ℕ → List ℕ → P → Type 0) (plan : Plans) (home : ℕ → L)
    (old new : L → BoardSeat R) (ends : List (End P)) → ((p : L) → (old p).made ≡ 1) → ((p : L) → (old p).mine ≡ [])
    → ((p : L) → MannedBy asks may workers (old p) (new p)) → AreEnds stands plan (seen_of home new) ends → SpendsOnly may ends
spends_only asks may workers stands plan home old new ends one none m are = record {
  each = λ i at.
      let q : ℕ = i + 1 in
      let S : Journal = seen_of home new q in
      lost_at asks may workers (old (home q)) (new (home q)) (one (home q)) (none (home q)) (m (home q)) q
      (spent_lost S q (spent_is stands S q (plan q) (are.each i Spent at)));
}
