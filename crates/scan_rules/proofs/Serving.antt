-- What is served: only what is needed, so at most once, and only of the list.
use Rattle.std.proofs.Common.{◌≡◌, ℕ, ◌+◌, ◌<◌, ◌≤◌, ◌==◌, List, [], ◌∷◌, ◌++◌, true, false, not, ◌&&◌, cond, ⊎_elim, sym, ◌∙◌, ap, subst, arith, eqb-true}
use Rattle.std.specs.List.{list_any}
use Rattle.std.proofs.lemmas.Bool.{and_parts, or_cases, cases_Bool, and_from, false_from_ne_true, false≢true, both_ways, not-true, not_from_false}
use Rattle.scan_rules.specs.declared.journal_line.JournalLine.{JournalLine}
use Rattle.scan_rules.specs.declared.journal_line.JournalLine.TheVariants.{Attach, Take, Deliver, Cancel, Collect, Close}
use Rattle.scan_rules.proofs.Lists.{any_cases, any_stays, any_weaker, count_push, none_counted, some_counted}
use Rattle.scan_rules.proofs.Numbers.{all_has, filter_has, has_below, has_filter}
use Rattle.scan_rules.proofs.Runs.{run_ind, wanted_kept}
use Rattle.scan_rules.specs.Lines.{attaches, loses, names, names_with, serves}
use Rattle.scan_rules.specs.Numbers.{below, has}
use Rattle.scan_rules.specs.Queries.{Journal, gives, is_attached, is_cancelled, is_complete, is_done, is_given, is_lost, is_running, is_served, is_standing, times_served, wanted}
use Rattle.scan_rules.specs.Runs.{IsRun, MayFollow}
use Rattle.scan_rules.specs.Scan.{needs, takers}

-- the taker of a chunk needs it
pub taker_needs : (past : Journal) (c q : ℕ) → has (takers past c) q ≡ true → needs past q c ≡ true
taker_needs past c q h = has_filter (λ p. needs past p c) (below 256) q h

-- and each query that needs it is among them
pub needs_takes : (past : Journal) (c q : ℕ) → q < 256 → needs past q c ≡ true → has (takers past c) q ≡ true
needs_takes past c q l n = filter_has (λ p. needs past p c) (below 256) q (has_below 256 q l) n

-- what it means that a query needs a chunk
pub record Needs (past : Journal) (q c : ℕ) : Type 0 where
  pub attached : is_attached past q ≡ true
  pub not_cancelled : is_cancelled past q ≡ false
  pub not_lost : is_lost past q ≡ false
  pub incomplete : is_complete past q ≡ false
  pub running : is_running past q ≡ true
  pub wants : has (wanted past q) c ≡ true
  pub unmet : is_served past q c ≡ false

-- the test tells it
pub needs_tells : (past : Journal) (q c : ℕ) → needs past q c ≡ true → Needs past q c
needs_tells past q c h =
    let a = and_parts (is_running past q) _ h in
    let b = and_parts (has (wanted past q) c) _ a.1 in
    let d = and_parts (is_standing past q) _ a.0 in
    let e = and_parts (is_attached past q) _ d.0 in
    let f = and_parts (not (is_cancelled past q)) _ e.1 in
    record { attached = e.0; not_cancelled = not-true _ f.0; not_lost = not-true _ f.1; incomplete = not-true _ d.1; running = a.0; wants = b.0; unmet = not-true _ b.1 }

-- the parts of standing
pub standing_from : (past : Journal) (q : ℕ) → is_attached past q ≡ true → is_cancelled past q ≡ false → is_lost past q ≡ false → is_standing past q ≡ true
standing_from past q a c l = and_from _ _ a (and_from _ _ (not_from_false _ c) (not_from_false _ l))

-- a line that serves q with c, in a run: q needed c
pub server_needs : (ring : ℕ) (past : Journal) (line : JournalLine) (q c : ℕ) → MayFollow ring past line → serves q c line ≡ true → Needs past q c
server_needs ring past (Take s t d queries) q c m h =
    let e : d ≡ c = eqb-true d c (and_parts (d == c) _ h).0 in
    subst (Needs past q) e (needs_tells past q d (taker_needs past d q (subst (λ (l : List ℕ). has l q ≡ true) m.all (and_parts (d == c) _ h).1)))
server_needs ring past (Attach s p chunks) q c m h = absurd (false≢true h)
server_needs ring past (Deliver s t queries) q c m h = absurd (false≢true h)
server_needs ring past (Cancel s p) q c m h = absurd (false≢true h)
server_needs ring past (Collect s p) q c m h = absurd (false≢true h)
server_needs ring past (Close s) q c m h = absurd (false≢true h)

-- each chunk is taken for a query at most once
pub served_once : {ring : ℕ} (past : Journal) (q c : ℕ) → IsRun ring past → times_served past q c ≤ 1
served_once {ring} past q c r = run_ind (λ front. times_served front q c ≤ 1) (omega arith) (λ front line run m p.
    let e : times_served (front ++ line ∷ []) q c ≡ times_served front q c + cond (serves q c line) 1 0 = count_push (serves q c) front line in
    ⊎_elim
    (λ t. let n : times_served front q c ≡ 0 = none_counted (serves q c) front (server_needs ring front line q c m t).unmet in
    let w : times_served (front ++ line ∷ []) q c ≡ times_served front q c + 1 = e ∙ ap (λ b. times_served front q c + cond b 1 0) t in
    subst (λ k. k ≤ 1) (sym w) (omega (arith, n)))
    (λ f. let w : times_served (front ++ line ∷ []) q c ≡ times_served front q c + 0 = e ∙ ap (λ b. times_served front q c + cond b 1 0) f in
    subst (λ k. k ≤ 1) (sym w) (omega (arith, p)))
    (cases_Bool (serves q c line))) past r

-- a query is attached before anything is taken for it, and what is taken for it is of its list
pub served_is_wanted : {ring : ℕ} (past : Journal) (q c : ℕ) → IsRun ring past → is_served past q c ≡ true → (is_attached past q ≡ true) × (has (wanted past q) c ≡ true)
served_is_wanted {ring} past q c r = run_ind (λ front. is_served front q c ≡ true → (is_attached front q ≡ true) × (has (wanted front q) c ≡ true)) (λ h. absurd (false≢true h)) (λ front line run m p h.
    let was : (is_attached front q ≡ true) × (has (wanted front q) c ≡ true) = ⊎_elim (λ t. p t) (λ t. let n = server_needs ring front line q c m (⊎_elim (λ u. u) (λ u. absurd (false≢true u)) (or_cases (serves q c line) false t)) in (n.attached, n.wants)) (any_cases (serves q c) front (line ∷ []) h) in
    (any_stays (attaches q) front (line ∷ []) was.0, subst (λ (l : List ℕ). has l c ≡ true) (sym (wanted_kept ring front q line m was.0)) was.1)) past r

-- what is not in its list is never taken for it
pub never_served : {ring : ℕ} (past : Journal) (q c : ℕ) → IsRun ring past → has (wanted past q) c ≡ false → times_served past q c ≡ 0
never_served past q c r w = none_counted (serves q c) past (false_from_ne_true _ (λ t. both_ways _ w (served_is_wanted past q c r t).1))

-- what a line gives it serves
gives_serves : (past : Journal) (q c : ℕ) (line : JournalLine) → gives past q c line ≡ true → serves q c line ≡ true
gives_serves past q c (Take s t d queries) h = (and_parts _ _ h).0
gives_serves past q c (Attach s p chunks) h = h
gives_serves past q c (Deliver s t queries) h = h
gives_serves past q c (Cancel s p) h = h
gives_serves past q c (Collect s p) h = h
gives_serves past q c (Close s) h = h

-- what is given was served
pub given_is_served : (past J : Journal) (q c : ℕ) → list_any (gives J q c) past ≡ true → is_served past q c ≡ true
given_is_served past J q c h = any_weaker (gives J q c) (serves q c) (gives_serves J q c) past h

-- a query that is done has met every chunk of its list, once
pub done_is_served : {ring : ℕ} (past : Journal) (q c : ℕ) → IsRun ring past → is_done past q ≡ true → has (wanted past q) c ≡ true → times_served past q c ≡ 1
done_is_served past q c r d w =
    let whole = (and_parts (is_standing past q) _ d).1 in
    let one : 1 ≤ times_served past q c = some_counted (serves q c) past (given_is_served past past q c (all_has (is_given past q) (wanted past q) c whole w)) in
    let most : times_served past q c ≤ 1 = served_once past q c r in
    omega (arith, one, most)

-- a take names only attached queries
named_needs : (ring : ℕ) (front : Journal) (line : JournalLine) (q : ℕ) → MayFollow ring front line → names q line ≡ true → is_attached front q ≡ true
named_needs ring front (Take s t c queries) q m h = (needs_tells front q c (taker_needs front c q (subst (λ (l : List ℕ). has l q ≡ true) m.all h))).attached
named_needs ring front (Attach s p chunks) q m h = absurd (false≢true h)
named_needs ring front (Deliver s t queries) q m h = absurd (false≢true h)
named_needs ring front (Cancel s p) q m h = absurd (false≢true h)
named_needs ring front (Collect s p) q m h = absurd (false≢true h)
named_needs ring front (Close s) q m h = absurd (false≢true h)

-- something is taken for a query only once it was attached
pub named_attached : {ring : ℕ} (past : Journal) (q : ℕ) → IsRun ring past → list_any (names q) past ≡ true → is_attached past q ≡ true
named_attached {ring} past q r = run_ind (λ front. list_any (names q) front ≡ true → is_attached front q ≡ true) (λ h. absurd (false≢true h)) (λ front line run m i h.
    any_stays (attaches q) front (line ∷ []) (⊎_elim i (λ t. named_needs ring front line q m (⊎_elim (λ u. u) (λ u. absurd (false≢true u)) (or_cases (names q line) false t))) (any_cases (names q) front (line ∷ []) h))) past r

-- with any ticket
names_of : (t q : ℕ) (line : JournalLine) → names_with t q line ≡ true → names q line ≡ true
names_of t q (Take s u c queries) h = (and_parts _ _ h).1
names_of t q (Attach s p chunks) h = h
names_of t q (Deliver s u queries) h = h
names_of t q (Cancel s p) h = h
names_of t q (Collect s p) h = h
names_of t q (Close s) h = h

-- only queries that a take named are lost
lost_line : (ring : ℕ) (front : Journal) (line : JournalLine) (q : ℕ) → MayFollow ring front line → loses q line ≡ true → list_any (names q) front ≡ true
lost_line ring front (Deliver s t queries) q m h = any_weaker (names_with t q) (names q) (names_of t q) front (and_parts (is_running front q) _ (all_has (λ p. is_running front p && list_any (names_with t p) front) queries q m.losable h)).1
lost_line ring front (Attach s p chunks) q m h = absurd (false≢true h)
lost_line ring front (Take s t c queries) q m h = absurd (false≢true h)
lost_line ring front (Cancel s p) q m h = absurd (false≢true h)
lost_line ring front (Collect s p) q m h = absurd (false≢true h)
lost_line ring front (Close s) q m h = absurd (false≢true h)

-- a query is lost only once something was taken for it
pub lost_named : {ring : ℕ} (past : Journal) (q : ℕ) → IsRun ring past → is_lost past q ≡ true → list_any (names q) past ≡ true
lost_named {ring} past q r = run_ind (λ front. is_lost front q ≡ true → list_any (names q) front ≡ true) (λ h. absurd (false≢true h)) (λ front line run m i h.
    any_stays (names q) front (line ∷ []) (⊎_elim i (λ t. lost_line ring front line q m (⊎_elim (λ u. u) (λ u. absurd (false≢true u)) (or_cases (loses q line) false t))) (any_cases (loses q) front (line ∷ []) h))) past r

-- what serves a query names it
serves_names : (q c : ℕ) (line : JournalLine) → serves q c line ≡ true → names q line ≡ true
serves_names q c (Take s t d queries) h = (and_parts _ _ h).1
serves_names q c (Attach s p chunks) h = h
serves_names q c (Deliver s t queries) h = h
serves_names q c (Cancel s p) h = h
serves_names q c (Collect s p) h = h
serves_names q c (Close s) h = h

-- what is served names the query
pub served_is_named : (past : Journal) (q c : ℕ) → is_served past q c ≡ true → list_any (names q) past ≡ true
served_is_named past q c h = any_weaker (serves q c) (names q) (serves_names q c) past h
