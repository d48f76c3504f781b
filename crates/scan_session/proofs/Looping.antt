-- The loops over the script's lines and over the queries: one turn more.
use Rattle.std.proofs.Common.{◌≡◌, ℕ, ◌+◌, ◌≤◌, ◌<◌, zero, suc, List, [], ◌∷◌, ◌++◌, length, take, drop, get_or, Bool, true, Option, is_some, ◌⊎◌, ⊎_elim, refl, sym, ◌∙◌, ap, subst, arith, take-append-drop, drop-cons}
use Rattle.std.proofs.lemmas.List.{take_more}
use Rattle.session_script.specs.declared.step.Step.{Step}
use Rattle.scan_rules.specs.Queries.{QueryState}
use Rattle.scan_board.specs.Calls.{BoardSeat}
use Rattle.scan_session.specs.Plans.{Plans}
use Rattle.scan_session.specs.Goes.{Goes, IsNext, IsScript, number_of, StopsAt, StopsWithRoom}
use Rattle.scan_session.specs.KnownEnds.{at_query, MoreKnown}
use Rattle.scan_session.specs.declared.end.End.{End}
use Rattle.scan_session.specs.declared.end.Outcome.{Outcome}
use Rattle.scan_session.specs.declared.end.Outcome.TheVariants.{Went, Memory, Odd}
use Rattle.scan_session.proofs.Listing.{some_of}

-- what a part leaves, where it is known how it ended
pub goes_is : {R L : Type 0} (holds room : Type 0) (seats : L → BoardSeat R) (r s : Outcome) → r ≡ s → Goes holds room seats r → Goes holds room seats s
goes_is holds room seats r s e a = subst (λ (t : Outcome). Goes holds room seats t) e a

-- what a part leaves that is never out of memory
pub never_stops : {R L : Type 0} (holds room : Type 0) (seats : L → BoardSeat R) (r : Outcome) → Goes holds ⊥ seats r → Goes holds room seats r
never_stops holds room seats Went d = d
never_stops holds room seats Memory d = absurd d
never_stops holds room seats Odd d = d

-- where the script is cut at a line
pub cut_at : (steps : List Step) (i : ℕ) (d : Step) → i < length steps → steps ≡ take i steps ++ get_or steps i d ∷ drop (suc i) steps
cut_at steps i d low = sym (take-append-drop i steps) ∙ ap (λ (l : List Step). take i steps ++ l) (drop-cons steps i d low)

pub next_at : (count : ℕ) (steps : List Step) (i : ℕ) (d : Step) → IsScript count steps → i < length steps → IsNext (take i steps) (get_or steps i d)
next_at count steps i d s low = s.next (take i steps) (get_or steps i d) (drop (suc i) steps) (cut_at steps i d low)

pub from_1_at : (count : ℕ) (steps : List Step) (i : ℕ) (d : Step) → IsScript count steps → i < length steps → 1 ≤ number_of (get_or steps i d)
from_1_at count steps i d s low = s.from_1 (take i steps) (get_or steps i d) (drop (suc i) steps) (cut_at steps i d low)

pub low_at : (count : ℕ) (steps : List Step) (i : ℕ) (d : Step) → IsScript count steps → i < length steps → number_of (get_or steps i d) ≤ count
low_at count steps i d s low = s.low (take i steps) (get_or steps i d) (drop (suc i) steps) (cut_at steps i d low)

-- a script that stopped at a line
pub stops_at : {R L : Type 0} (has : L → ℕ → Bool) (home : ℕ → L) (plan : Plans) (steps : List Step) (i : ℕ) (d : Step) (seats : L → BoardSeat R)
    (ends : ℕ → Option QueryState) → i < length steps → StopsAt has home plan (take i steps) (get_or steps i d) seats ends → StopsWithRoom has home plan steps seats ends
stops_at has home plan steps i d seats ends low s = record { done = take i steps; step = get_or steps i d; rest = drop (suc i) steps; cut = cut_at steps i d low; stops = s }

pub take_next : (steps : List Step) (i : ℕ) (d : Step) → i < length steps → take i steps ++ get_or steps i d ∷ [] ≡ take (i + 1) steps
take_next steps i d low = sym (take_more steps i d low)

pub take_whole : (steps : List Step) (i : ℕ) → (i < length steps → ⊥) → take i steps ≡ steps
take_whole [] zero h = refl
take_whole [] (suc i) h = refl
take_whole (x ∷ steps) zero h = absurd (h (omega arith))
take_whole (x ∷ steps) (suc i) h = ap (λ (l : List Step). x ∷ l) (take_whole steps i (λ lt. h (omega (arith, lt))))

module _ {P : Type 0} where
  -- an end that is known stays known
  pub known_stays : (a b : List (Option (End P))) (q : ℕ) → MoreKnown a b → is_some (at_query a q) ≡ true → is_some (at_query b q) ≡ true
  known_stays a b q m h = let k = some_of (at_query a q) h in ap is_some (m.stay q k.0 k.1)

  pub known_next : (a b : List (Option (End P))) (place : ℕ) → MoreKnown a b → ((q : ℕ) → 1 ≤ q → q ≤ place → is_some (at_query a q) ≡ true) → is_some (at_query b (place + 1)) ≡ true → (q : ℕ) → 1 ≤ q → q ≤ place + 1 → is_some (at_query b q) ≡ true
  known_next a b place m old here q h low = ⊎_elim
      (λ lt. known_stays a b q m (old q h (omega (arith, lt))))
      (λ ge. subst (λ z. is_some (at_query b z) ≡ true) (omega (arith, ge, low)) here)
      (at_or_below q (place + 1)) where
        at_or_below : (m n : ℕ) → (m < n) ⊎ (n ≤ m)
        at_or_below m n = grind arith
