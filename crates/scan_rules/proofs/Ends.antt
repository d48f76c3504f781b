-- A query that has ended stays as it is.
use Rattle.std.proofs.Common.{◌≡◌, ℕ, List, [], ◌∷◌, ◌++◌, true, false, ◌&&◌, ⊎_elim, refl, sym, ◌∙◌, subst, ne_eqb}
use Rattle.std.specs.List.{list_any, list_all}
use Rattle.std.proofs.lemmas.Bool.{false≢true, and_parts, cases_Bool, and_from, true_from_ne_false, false_from_ne_true, both_ways, not_from_false, cond-true, cond-false, not_from_true, and_left, and_right}
use Rattle.std.proofs.Common.{not, cond, ◌↔◌, Bool}
use Rattle.scan_rules.specs.declared.journal_line.JournalLine.{JournalLine}
use Rattle.scan_rules.specs.declared.journal_line.JournalLine.TheVariants.{Attach, Take, Deliver, Cancel, Collect, Close}
use Rattle.scan_rules.proofs.Lists.{any_none, any_stays, any_weaker}
use Rattle.scan_rules.proofs.Numbers.{all_from_has, all_has}
use Rattle.scan_rules.proofs.Runs.{run_on, wanted_kept}
use Rattle.scan_rules.specs.Ends.{HasEnded, StatesTell}
use Rattle.scan_rules.specs.Lines.{attaches, cancels, delivers, loses, names_with}
use Rattle.scan_rules.specs.Queries.{Cancelled, Done, Fresh, Running, Journal, QueryState, Spent, gives, is_attached, is_cancelled, is_complete, is_given, is_lost, is_running, state_of, wanted}
use Rattle.scan_rules.specs.Runs.{IsRun, MayFollow}

-- a query that does not run is neither cancelled nor lost by the next line
pub end_is_last : (ring : ℕ) (past : Journal) (q : ℕ) (line : JournalLine) → MayFollow ring past line → is_running past q ≡ false → (cancels q line ≡ false) × (loses q line ≡ false)
end_is_last ring past q (Cancel s p) m n = (ne_eqb p q (λ e. both_ways _ n (subst (λ z. is_running past z ≡ true) e m)), refl)
end_is_last ring past q (Deliver s t queries) m n = (refl, false_from_ne_true _ (λ h. both_ways _ n (and_parts _ _ (all_has (λ p. is_running past p && list_any (names_with t p) past) queries q m.losable h)).0))
end_is_last ring past q (Attach s p chunks) m n = (refl, refl)
end_is_last ring past q (Take s t c queries) m n = (refl, refl)
end_is_last ring past q (Collect s p) m n = (refl, refl)
end_is_last ring past q (Close s) m n = (refl, refl)

-- what a line gives it gives when more is known
gives_more : (past : Journal) (line : JournalLine) (q c : ℕ) (l : JournalLine) → gives past q c l ≡ true → gives (past ++ line ∷ []) q c l ≡ true
gives_more past line q c (Take s t d queries) h = and_from _ _ (and_parts _ _ h).0 (any_stays (delivers t) past (line ∷ []) (and_parts _ _ h).1)
gives_more past line q c (Attach s p chunks) h = h
gives_more past line q c (Deliver s t queries) h = h
gives_more past line q c (Cancel s p) h = h
gives_more past line q c (Collect s p) h = h
gives_more past line q c (Close s) h = h

-- what was given stays given
pub given_stays : (past : Journal) (line : JournalLine) (q c : ℕ) → is_given past q c ≡ true → is_given (past ++ line ∷ []) q c ≡ true
given_stays past line q c h = any_stays (gives (past ++ line ∷ []) q c) past (line ∷ []) (any_weaker (gives past q c) (gives (past ++ line ∷ []) q c) (gives_more past line q c) past h)

-- a list that is complete stays so
pub complete_stays : (ring : ℕ) (past : Journal) (line : JournalLine) (q : ℕ) → MayFollow ring past line → is_attached past q ≡ true → is_complete past q ≡ true → is_complete (past ++ line ∷ []) q ≡ true
complete_stays ring past line q m a w = subst (λ (l : List ℕ). list_all (is_given (past ++ line ∷ []) q) l ≡ true) (sym (wanted_kept ring past q line m a))
    (all_from_has (is_given (past ++ line ∷ []) q) (wanted past q) (λ c h. given_stays past line q c (all_has (is_given past q) (wanted past q) c w h)))

-- how a query ended
pub data Ended (past : Journal) (q : ℕ) : Type 0 where
  by_cancel : is_cancelled past q ≡ true → Ended past q
  by_loss : is_cancelled past q ≡ false → is_lost past q ≡ true → Ended past q
  by_end : is_cancelled past q ≡ false → is_lost past q ≡ false → is_complete past q ≡ true → Ended past q

-- a query that does not run has ended in one of three ways
pub ended_how : (past : Journal) (q : ℕ) → is_attached past q ≡ true → is_running past q ≡ false → Ended past q
ended_how past q a n = ⊎_elim (λ c. by_cancel c) (λ c. ⊎_elim (λ l. by_loss c l) (λ l. by_end c l (true_from_ne_false _ (λ w. both_ways _ n (and_from _ _ (and_from _ _ a (and_from _ _ (not_from_false _ c) (not_from_false _ l))) (not_from_false _ w))))) (cases_Bool (is_lost past q))) (cases_Bool (is_cancelled past q))

-- the state that each leaves
abbrev pub state_by : {past : Journal} {q : ℕ} → Ended past q → QueryState
state_by (by_cancel c) = Cancelled
state_by (by_loss c l) = Spent
state_by (by_end c l w) = Done

-- it is the state of the journal
pub state_is : (past : Journal) (q : ℕ) (a : is_attached past q ≡ true) (e : Ended past q) → (state_of past q ≡ state_by e) × (is_running past q ≡ false)
state_is past q a (by_cancel c) = (cond-false (not (is_attached past q)) _ _ (not_from_true _ a) ∙ cond-true (is_cancelled past q) _ _ c, and_left _ _ (and_right _ _ (and_left _ _ (not_from_true _ c))))
state_is past q a (by_loss c l) = (cond-false (not (is_attached past q)) _ _ (not_from_true _ a) ∙ (cond-false (is_cancelled past q) _ _ c ∙ cond-true (is_lost past q) _ _ l), and_left _ _ (and_right _ _ (and_right _ _ (not_from_true _ l))))
state_is past q a (by_end c l w) = (cond-false (not (is_attached past q)) _ _ (not_from_true _ a) ∙ (cond-false (is_cancelled past q) _ _ c ∙ (cond-false (is_lost past q) _ _ l ∙ cond-true (is_complete past q) _ _ w)), and_right _ _ (not_from_true _ w))

-- the next line leaves how a query ended
ended_step : (ring : ℕ) (past : Journal) (line : JournalLine) (q : ℕ) → MayFollow ring past line → (a : is_attached past q ≡ true) → is_running past q ≡ false → (e : Ended past q) → (f : Ended (past ++ line ∷ []) q) × (state_by f ≡ state_by e)
ended_step ring past line q m a n (by_cancel c) = (by_cancel (any_stays (cancels q) past (line ∷ []) c), refl)
ended_step ring past line q m a n (by_loss c l) = (by_loss (any_none (cancels q) past line (end_is_last ring past q line m n).0 ∙ c) (any_stays (loses q) past (line ∷ []) l), refl)
ended_step ring past line q m a n (by_end c l w) = (by_end (any_none (cancels q) past line (end_is_last ring past q line m n).0 ∙ c) (any_none (loses q) past line (end_is_last ring past q line m n).1 ∙ l) (complete_stays ring past line q m a w), refl)

-- a query that was attached and does not run stays as it is
pub ended_stays : {ring : ℕ} (front rest : Journal) (q : ℕ) (s : QueryState) → IsRun ring (front ++ rest) → HasEnded front q s → HasEnded (front ++ rest) q s
ended_stays front rest q s r o = run_on (λ past. HasEnded past q s) (λ past line run m p.
    let e = ended_how past q p.attached p.stopped in
    let n = ended_step _ past line q m p.attached p.stopped e in
    let a = any_stays (attaches q) past (line ∷ []) p.attached in
    let w = state_is (past ++ line ∷ []) q a n.0 in
    record { attached = a; stopped = w.1; state_is = w.0 ∙ (n.1 ∙ (sym (state_is past q p.attached e).0 ∙ p.state_is)) }) front rest r o

-- the state of a query that was attached and does not run
pub ended_now : (past : Journal) (q : ℕ) → is_attached past q ≡ true → is_running past q ≡ false → HasEnded past q (state_of past q)
ended_now past q a n = record { attached = a; stopped = n; state_is = refl }

-- the five cases, one after another
running_parts : (a c l w : Bool) → ((a && (not c && not l)) && not w ≡ true) ↔ (cond (not a) Fresh (cond c Cancelled (cond l Spent (cond w Done Running))) ≡ Running)
running_parts false c l w = (λ h. absurd (false≢true h), λ h. absurd (cc))
running_parts true true l w = (λ h. absurd (false≢true h), λ h. absurd (cc))
running_parts true false true w = (λ h. absurd (false≢true h), λ h. absurd (cc))
running_parts true false false true = (λ h. absurd (false≢true h), λ h. absurd (cc))
running_parts true false false false = (λ h. refl, λ h. refl)

-- and for a query that is done
done_parts : (a c l w : Bool) → ((a && (not c && not l)) && w ≡ true) ↔ (cond (not a) Fresh (cond c Cancelled (cond l Spent (cond w Done Running))) ≡ Done)
done_parts false c l w = (λ h. absurd (false≢true h), λ h. absurd (cc))
done_parts true true l w = (λ h. absurd (false≢true h), λ h. absurd (cc))
done_parts true false true w = (λ h. absurd (false≢true h), λ h. absurd (cc))
done_parts true false false true = (λ h. refl, λ h. refl)
done_parts true false false false = (λ h. absurd (false≢true h), λ h. absurd (cc))

-- the states tell whether a query runs and whether it is done
pub states_tell : StatesTell
states_tell past q = (
  running_parts (is_attached past q) (is_cancelled past q) (is_lost past q) (is_complete past q),
  done_parts (is_attached past q) (is_cancelled past q) (is_lost past q) (is_complete past q),
)
