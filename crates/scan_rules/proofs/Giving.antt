-- What is given changes by Delivers alone, each by what its one Take took.
use Rattle.std.proofs.Common.{◌≡◌, ℕ, ◌+◌, ◌<◌, ◌≤◌, ◌==◌, List, [], ◌∷◌, ◌++◌, Bool, true, false, ◌&&◌, ◌||◌, cond, ⊎_elim, refl, sym, ◌∙◌, ap, subst, arith, filter, count_by, eq-eqb, ne_eqb, eqb-true, All, Contains}
use Rattle.std.specs.List.{list_any}
use Rattle.std.proofs.lemmas.Bool.{and_parts, or_cases, cases_Bool, cases_eq, and_from, or_from, false_from_ne_true, true≢false, false≢true, both_ways, cond-true, cond-false, and_right}
use Rattle.std.proofs.lemmas.List.Elements.{filter_agree, All-head, All-tail, All-contains, All-push, Contains-append_right}
use Rattle.scan_rules.specs.declared.journal_line.JournalLine.{JournalLine}
use Rattle.scan_rules.specs.declared.journal_line.JournalLine.TheVariants.{Attach, Take, Deliver, Cancel, Collect, Close}
use Rattle.scan_rules.proofs.Lengths.{ticket_low, took_ticket}
use Rattle.scan_rules.proofs.Lists.{alone_passes, any_agree, any_append, any_cases, any_finds, any_none, any_or, any_push, any_stays, any_weaker, count_push, none_counted, weight}
use Rattle.scan_rules.proofs.Runs.{run_ind, run_more, wanted_kept}
use Rattle.scan_rules.proofs.Serving.{served_is_wanted, served_once}
use Rattle.scan_rules.specs.Lines.{chunks_for, delivers, has_ticket, is_deliver, serves, serves_with, takes, took}
use Rattle.scan_rules.specs.Numbers.{has}
use Rattle.scan_rules.specs.Queries.{Journal, given, gives, is_attached, is_delivered, is_given, is_served, wanted}
use Rattle.scan_rules.specs.Runs.{IsAsked, IsRun, IsRunOver, MayFollow}

-- what is delivered was taken
pub delivered_taken : {ring : ℕ} (past : Journal) (t : ℕ) → IsRun ring past → is_delivered past t ≡ true → list_any (has_ticket t) past ≡ true
delivered_taken {ring} past t r = run_ind (λ front. is_delivered front t ≡ true → list_any (has_ticket t) front ≡ true) (λ h. absurd (false≢true h)) (λ front line run m i h.
    any_stays (has_ticket t) front (line ∷ []) (⊎_elim i (λ d. was front line m (⊎_elim (λ u. u) (λ u. absurd (false≢true u)) (or_cases (delivers t line) false d))) (any_cases (delivers t) front (line ∷ []) h))) past r where
      was : (front : Journal) (line : JournalLine) → MayFollow ring front line → delivers t line ≡ true → list_any (has_ticket t) front ≡ true
      was front (Deliver s u queries) m h = subst (λ z. list_any (has_ticket z) front ≡ true) (eqb-true u t h) (any_weaker (took s u) (has_ticket u) (took_ticket s u) front m.same_seat)
      was front (Attach s p chunks) m h = absurd (false≢true h)
      was front (Take s u c queries) m h = absurd (false≢true h)
      was front (Cancel s p) m h = absurd (false≢true h)
      was front (Collect s p) m h = absurd (false≢true h)
      was front (Close s) m h = absurd (false≢true h)

-- a ticket is given once
pub ticket_once : {ring : ℕ} (past : Journal) (t : ℕ) → IsRun ring past → count_by (has_ticket t) past ≤ 1
ticket_once {ring} past t r = run_ind (λ front. count_by (has_ticket t) front ≤ 1) (omega arith) (λ front line run m i.
    let e : count_by (has_ticket t) (front ++ line ∷ []) ≡ count_by (has_ticket t) front + weight (has_ticket t line) = count_push (has_ticket t) front line in
    ⊎_elim
    (λ h. let z : count_by (has_ticket t) front ≡ 0 = none_counted (has_ticket t) front (new front line run m h) in let w : weight (has_ticket t line) ≡ 1 = cond-true (has_ticket t line) 1 0 h in omega (arith, e, z, w))
    (λ h. let w : weight (has_ticket t line) ≡ 0 = cond-false (has_ticket t line) 1 0 h in omega (arith, e, i, w))
    (cases_Bool (has_ticket t line))) past r where
      new : (front : Journal) (line : JournalLine) → IsRun ring front → MayFollow ring front line → has_ticket t line ≡ true → list_any (has_ticket t) front ≡ false
      new front (Take s u c queries) run m h = false_from_ne_true _ (λ k. let l : t < count_by takes front = ticket_low front t run k in let e : u ≡ t = eqb-true u t h in let n : u ≡ count_by takes front = m.counted in omega (arith, l, e, n))
      new front (Attach s p chunks) run m h = absurd (false≢true h)
      new front (Deliver s u queries) run m h = absurd (false≢true h)
      new front (Cancel s p) run m h = absurd (false≢true h)
      new front (Collect s p) run m h = absurd (false≢true h)
      new front (Close s) run m h = absurd (false≢true h)

-- a line that delivers nothing changes nothing that others give
gives_same : (past : Journal) (line : JournalLine) (q c : ℕ) → ((t : ℕ) → delivers t line ≡ false) → (l : JournalLine) → gives (past ++ line ∷ []) q c l ≡ gives past q c l
gives_same past line q c n (Take s t d queries) = ap (λ b. ((d == c) && has queries q) && b) (any_none (delivers t) past line (n t))
gives_same past line q c n (Attach s p chunks) = refl
gives_same past line q c n (Deliver s t queries) = refl
gives_same past line q c n (Cancel s p) = refl
gives_same past line q c n (Collect s p) = refl
gives_same past line q c n (Close s) = refl

-- a line that is no Deliver delivers no ticket
no_delivery : (line : JournalLine) → is_deliver line ≡ false → (t : ℕ) → delivers t line ≡ false
no_delivery (Deliver s u queries) n t = absurd (true≢false n)
no_delivery (Attach s p chunks) n t = refl
no_delivery (Take s u c queries) n t = refl
no_delivery (Cancel s p) n t = refl
no_delivery (Collect s p) n t = refl
no_delivery (Close s) n t = refl

-- a new line is not delivered yet
gives_not_yet : (ring : ℕ) (past : Journal) (line : JournalLine) (q c : ℕ) → IsRun ring past → MayFollow ring past line → gives past q c line ≡ false
gives_not_yet ring past (Take s t d queries) q c r m = and_right _ _ (false_from_ne_true _ (λ h. let l : t < count_by takes past = ticket_low past t r (delivered_taken past t r h) in let n : t ≡ count_by takes past = m.counted in omega (arith, l, n)))
gives_not_yet ring past (Attach s p chunks) q c r m = refl
gives_not_yet ring past (Deliver s t queries) q c r m = refl
gives_not_yet ring past (Cancel s p) q c r m = refl
gives_not_yet ring past (Collect s p) q c r m = refl
gives_not_yet ring past (Close s) q c r m = refl

-- what is given changes by Delivers alone
pub is_given_same : (ring : ℕ) (past : Journal) (line : JournalLine) (q c : ℕ) → IsRun ring past → MayFollow ring past line → is_deliver line ≡ false → is_given (past ++ line ∷ []) q c ≡ is_given past q c
is_given_same ring past line q c r m n =
    let same = gives_same past line q c (no_delivery line n) in
    any_agree (gives (past ++ line ∷ []) q c) (gives past q c) same (past ++ line ∷ []) ∙ any_none (gives past q c) past line (gives_not_yet ring past line q c r m)

-- and so is the list of what is given
pub given_same : (ring : ℕ) (past : Journal) (line : JournalLine) (q : ℕ) → IsRun ring past → MayFollow ring past line → is_attached past q ≡ true → is_deliver line ≡ false → given (past ++ line ∷ []) q ≡ given past q
given_same ring past line q r m a n =
    ap (λ (l : List ℕ). filter (is_given (past ++ line ∷ []) q) l) (wanted_kept ring past q line m a)
    ∙ filter_agree (is_given (past ++ line ∷ []) q) (is_given past q) (λ c. is_given_same ring past line q c r m n) (wanted past q)

-- after a Deliver a line gives what it gave before, and what it serves with that ticket
gives_deliver : (past : Journal) (s t : ℕ) (lost : List ℕ) (q c : ℕ) (l : JournalLine) → gives (past ++ Deliver s t lost ∷ []) q c l ≡ (gives past q c l || serves_with t q c l)
gives_deliver past s t lost q c (Take v u d queries) =
    ap (λ b. ((d == c) && has queries q) && b) (any_push (delivers u) past (Deliver s t lost)) ∙ (spread ((d == c) && has queries q) (is_delivered past u) (t == u) ∙ ap (λ b. (((d == c) && has queries q) && is_delivered past u) || (b && ((d == c) && has queries q))) (turned t u)) where
      spread : (a b e : Bool) → (a && (b || e)) ≡ ((a && b) || (e && a))
      spread true true e = refl
      spread true false true = refl
      spread true false false = refl
      spread false b true = refl
      spread false b false = refl

      turned : (m n : ℕ) → (m == n) ≡ (n == m)
      turned m n = ⊎_elim (λ e. eq-eqb m n e ∙ sym (eq-eqb n m (sym e))) (λ ne. ne_eqb m n ne ∙ sym (ne_eqb n m (λ e. ne (sym e)))) (cases_eq m n)
gives_deliver past s t lost q c (Attach v p chunks) = refl
gives_deliver past s t lost q c (Deliver v u queries) = refl
gives_deliver past s t lost q c (Cancel v p) = refl
gives_deliver past s t lost q c (Collect v p) = refl
gives_deliver past s t lost q c (Close v) = refl

-- a Deliver gives the chunk of its Take to the queries of its Take
pub is_given_deliver : (past : Journal) (s t : ℕ) (lost : List ℕ) (q c : ℕ) → is_given (past ++ Deliver s t lost ∷ []) q c ≡ (is_given past q c || list_any (serves_with t q c) past)
is_given_deliver past s t lost q c =
    any_none (gives (past ++ Deliver s t lost ∷ []) q c) past (Deliver s t lost) refl
    ∙ (any_agree (gives (past ++ Deliver s t lost ∷ []) q c) (λ l. gives past q c l || serves_with t q c l) (gives_deliver past s t lost q c) past ∙ any_or (gives past q c) (serves_with t q c) past)

-- and that is the chunk and the queries of the one Take with the ticket
pub served_is : {ring : ℕ} (before : Journal) (s t d : ℕ) (queries : List ℕ) (rest : Journal) (q c : ℕ) → IsRun ring (before ++ Take s t d queries ∷ rest) → list_any (serves_with t q c) (before ++ Take s t d queries ∷ rest) ≡ ((d == c) && has queries q)
served_is before s t d queries rest q c r =
    let past : Journal = before ++ Take s t d queries ∷ rest in
    let me : t == t ≡ true = eq-eqb t t refl in
    let n = alone_passes (has_ticket t) before (Take s t d queries) rest me (ticket_once past t r) in
    let no_in : (xs : Journal) → list_any (has_ticket t) xs ≡ false → list_any (serves_with t q c) xs ≡ false = λ xs f. false_from_ne_true _ (λ h. both_ways _ f (any_weaker (serves_with t q c) (has_ticket t) (λ l k. (and_parts (has_ticket t l) _ k).0) xs h)) in
    any_append (serves_with t q c) before (Take s t d queries ∷ rest)
    ∙ (ap (λ b. b || list_any (serves_with t q c) (Take s t d queries ∷ rest)) (no_in before n.0)
    ∙ (ap (λ b. ((t == t) && ((d == c) && has queries q)) || b) (no_in rest n.1)
    ∙ (ap (λ b. (b && ((d == c) && has queries q)) || false) me ∙ or_nothing ((d == c) && has queries q)))) where
      or_nothing : (b : Bool) → (b || false) ≡ b
      or_nothing true = refl
      or_nothing false = refl

-- and it was not given before: a piece for it may be absorbed
pub not_given_before : {ring : ℕ} (before : Journal) (s t d : ℕ) (queries : List ℕ) (rest : Journal) (q : ℕ) → IsRun ring (before ++ Take s t d queries ∷ rest) → has queries q ≡ true → is_delivered (before ++ Take s t d queries ∷ rest) t ≡ false → is_given (before ++ Take s t d queries ∷ rest) q d ≡ false
not_given_before before s t d queries rest q r h n =
    let past : Journal = before ++ Take s t d queries ∷ rest in
    let line : JournalLine = Take s t d queries in
    let me : serves q d line ≡ true = and_from (d == d) _ (eq-eqb d d refl) h in
    let others = alone_passes (serves q d) before line rest me (served_once past q d r) in
    let no_in : (xs : Journal) → list_any (serves q d) xs ≡ false → list_any (gives past q d) xs ≡ false = λ xs f. false_from_ne_true _ (λ k. both_ways _ f (any_weaker (gives past q d) (serves q d) (served past q d) xs k)) in
    any_append (gives past q d) before (line ∷ rest) ∙ or_from _ _ (no_in before others.0) (or_from _ _ (and_right _ _ n) (no_in rest others.1)) where
      served : (past : Journal) (q d : ℕ) (l : JournalLine) → gives past q d l ≡ true → serves q d l ≡ true
      served past q d (Take v u e ps) k = (and_parts _ _ k).0
      served past q d (Attach v p chunks) k = k
      served past q d (Deliver v u ps) k = k
      served past q d (Cancel v p) k = k
      served past q d (Collect v p) k = k
      served past q d (Close v) k = k

-- in a run over a root, what is taken for a query is asked by the root
pub wanted_asked : (asks : ℕ → ℕ → Type 0) (past : Journal) (q c : ℕ) → All (IsAsked asks) past → has (wanted past q) c ≡ true → asks q c
wanted_asked asks [] q c a h = absurd (false≢true h)
wanted_asked asks (line ∷ past) q c a h = ⊎_elim
    (λ t. here line (All-head (IsAsked asks) line past a) t)
    (λ t. wanted_asked asks past q c (All-tail (IsAsked asks) line past a) t)
    (any_cases (λ y. y == c) (chunks_for q line) (wanted past q) h) where
      here : (line : JournalLine) → IsAsked asks line → has (chunks_for q line) c ≡ true → asks q c
      here (Attach s p chunks) k t = ⊎_elim
          (λ e. let f = any_finds (λ y. y == c) chunks (subst (λ b. has (cond b chunks []) c ≡ true) e t) in
          let at : asks p f.1 = All-contains (asks p) chunks f.1 k (subst (λ (l : List ℕ). Contains l f.1) (sym f.3) (Contains-append_right f.0 (f.1 ∷ f.2) f.1 (0, omega arith, refl))) in
          subst (λ z. asks z c) (eqb-true p q e) (subst (asks p) (eqb-true f.1 c f.4) at))
          (λ e. absurd (false≢true (subst (λ b. has (cond b chunks []) c ≡ true) e t)))
          (cases_Bool (p == q))
      here (Take s u d queries) k t = absurd (false≢true t)
      here (Deliver s u queries) k t = absurd (false≢true t)
      here (Cancel s p) k t = absurd (false≢true t)
      here (Collect s p) k t = absurd (false≢true t)
      here (Close s) k t = absurd (false≢true t)

-- what is served is asked
pub served_asked : {ring : ℕ} (asks : ℕ → ℕ → Type 0) (past : Journal) (q c : ℕ) → IsRunOver ring asks past → is_served past q c ≡ true → asks q c
served_asked asks past q c r h = wanted_asked asks past q c r.asked (served_is_wanted past q c r.run h).1

-- a run over a root goes on
pub run_over_more : {ring : ℕ} (asks : ℕ → ℕ → Type 0) (past : Journal) (line : JournalLine) → IsRunOver ring asks past → MayFollow ring past line → IsAsked asks line → IsRunOver ring asks (past ++ line ∷ [])
run_over_more asks past line r m a = record { run = run_more past line r.run m; asked = All-push (IsAsked asks) past line r.asked a }
