-- What a further line leaves of a query as it was, and what it changes.
use Rattle.std.proofs.Common.{◌≡◌, ℕ, ◌+◌, ◌<◌, ◌≤◌, ◌==◌, List, [], ◌∷◌, ◌++◌, AllPairs, Contains, length, get_or, Bool, true, false, not, ◌&&◌, ◌||◌, cond, Some, zero, suc, ⊎_elim, refl, sym, ◌∙◌, ap, subst, arith, count_by, eqb-true}
use Rattle.std.specs.List.{list_all}
use Rattle.std.proofs.lemmas.Bool.{and_from, and_parts, both_ways, false_from_ne_true, false≢true, not-true, not_from_false, or_cases, or_left, true≢false}
use Rattle.scan_rules.specs.declared.journal_line.JournalLine.{JournalLine}
use Rattle.scan_rules.specs.declared.journal_line.JournalLine.TheVariants.{Attach, Take, Deliver, Cancel, Collect, Close}
use Rattle.scan_rules.proofs.Ascending.{same_test}
use Rattle.scan_rules.proofs.Ends.{complete_stays, ended_now, ended_stays}
use Rattle.scan_rules.proofs.Giving.{is_given_same}
use Rattle.scan_rules.proofs.Lists.{any_cases, any_front, any_later, any_none, any_push, any_stays, count_cons, count_push, flat_none}
use Rattle.scan_rules.proofs.Runs.{run_ind, run_more}
use Rattle.scan_rules.proofs.Scan.{chosen, needs_from}
use Rattle.scan_rules.proofs.Serving.{needs_tells, standing_from}
use Rattle.scan_rules.specs.Lines.{attaches, cancels, chunks_for, collects, is_attach, is_deliver, loses, serves, takes}
use Rattle.scan_rules.specs.Numbers.{below, has}
use Rattle.scan_rules.specs.Queries.{Journal, is_attached, is_cancelled, is_collected, is_complete, is_given, is_lost, is_running, is_served, is_standing, state_of, wanted}
use Rattle.scan_rules.specs.Runs.{IsRun, MayFollow}
use Rattle.scan_rules.specs.Scan.{is_needed, needs, next_chunk, running_count}

-- tests that agree
pub all_agree : (p q : ℕ → Bool) → ((x : ℕ) → p x ≡ q x) → (xs : List ℕ) → list_all p xs ≡ list_all q xs
all_agree p q e [] = refl
all_agree p q e (x ∷ xs) = ap (λ b. b && list_all p xs) (e x) ∙ ap (λ b. q x && b) (all_agree p q e xs)

-- count the same
pub count_agree : (p q : ℕ → Bool) → ((x : ℕ) → p x ≡ q x) → (xs : List ℕ) → count_by p xs ≡ count_by q xs
count_agree p q e [] = refl
count_agree p q e (x ∷ xs) = count_cons p x xs ∙ (ap (λ b. cond b 1 0 + count_by p xs) (e x) ∙ (ap (λ n. cond (q x) 1 0 + n) (count_agree p q e xs) ∙ sym (count_cons q x xs)))

-- a line that changes nothing of a query but what it has met
pub record Calm (q : ℕ) (line : JournalLine) : Type 0 where
  pub attach : attaches q line ≡ false
  pub chunks : chunks_for q line ≡ []
  pub cancel : cancels q line ≡ false
  pub lose : loses q line ≡ false
  pub deliver : is_deliver line ≡ false

-- no more of a list is given by a line that delivers nothing
pub whole_same : (ring : ℕ) (past : Journal) (line : JournalLine) (q : ℕ) → IsRun ring past → MayFollow ring past line → chunks_for q line ≡ [] → is_deliver line ≡ false → is_complete (past ++ line ∷ []) q ≡ is_complete past q
whole_same ring past line q r m w n = ap (λ (l : List ℕ). list_all (is_given (past ++ line ∷ []) q) l) (flat_none (chunks_for q) past line w) ∙ all_agree (is_given (past ++ line ∷ []) q) (is_given past q) (λ c. is_given_same ring past line q c r m n) (wanted past q)

-- and the query runs as before
pub running_same : (ring : ℕ) (past : Journal) (line : JournalLine) (q : ℕ) → IsRun ring past → MayFollow ring past line → Calm q line → is_running (past ++ line ∷ []) q ≡ is_running past q
running_same ring past line q r m k =
    ap (λ b. (b && (not (is_cancelled (past ++ line ∷ []) q) && not (is_lost (past ++ line ∷ []) q))) && not (is_complete (past ++ line ∷ []) q)) (any_none (attaches q) past line k.attach)
    ∙ (ap (λ b. (is_attached past q && (not b && not (is_lost (past ++ line ∷ []) q))) && not (is_complete (past ++ line ∷ []) q)) (any_none (cancels q) past line k.cancel)
    ∙ (ap (λ b. (is_attached past q && (not (is_cancelled past q) && not b)) && not (is_complete (past ++ line ∷ []) q)) (any_none (loses q) past line k.lose)
    ∙ ap (λ b. is_standing past q && not b) (whole_same ring past line q r m k.chunks k.deliver)))

-- and needs what it needed
pub needs_same : (ring : ℕ) (past : Journal) (line : JournalLine) (q c : ℕ) → IsRun ring past → MayFollow ring past line → Calm q line → serves q c line ≡ false → needs (past ++ line ∷ []) q c ≡ needs past q c
needs_same ring past line q c r m k s =
    ap (λ b. b && (has (wanted (past ++ line ∷ []) q) c && not (is_served (past ++ line ∷ []) q c))) (running_same ring past line q r m k)
    ∙ (ap (λ (l : List ℕ). is_running past q && (has l c && not (is_served (past ++ line ∷ []) q c))) (flat_none (chunks_for q) past line k.chunks)
    ∙ ap (λ b. is_running past q && (has (wanted past q) c && not b)) (any_none (serves q c) past line s))

-- as many queries run
pub count_same : (ring : ℕ) (past : Journal) (line : JournalLine) → IsRun ring past → MayFollow ring past line → ((q : ℕ) → Calm q line) → running_count (past ++ line ∷ []) ≡ running_count past
count_same ring past line r m k = count_agree (is_running (past ++ line ∷ [])) (is_running past) (λ q. running_same ring past line q r m (k q)) (below 256)

-- a line without chunks for a query leaves its list ascending
pub ascend_same : (past : Journal) (line : JournalLine) (q : ℕ) → chunks_for q line ≡ [] → AllPairs (λ a b. a < b) (wanted past q) → AllPairs (λ a b. a < b) (wanted (past ++ line ∷ []) q)
ascend_same past line q e a = subst (AllPairs (λ a b. a < b)) (sym (flat_none (chunks_for q) past line e)) a

-- a line that takes nothing leaves the number of tickets
pub none_taken : (past : Journal) (line : JournalLine) → takes line ≡ false → count_by takes (past ++ line ∷ []) ≡ count_by takes past
none_taken past line n = count_push takes past line ∙ (ap (λ b. count_by takes past + cond b 1 0) n ∙ omega arith)

-- a Take changes nothing of a query but what it was served
pub calm_take : (s t c : ℕ) (queries : List ℕ) (q : ℕ) → Calm q (Take s t c queries)
calm_take s t c queries q = record { attach = refl; chunks = refl; cancel = refl; lose = refl; deliver = refl }

-- what is served is no longer needed
and_out : (a b m s : Bool) → (a && (b && not (m || s))) ≡ ((a && (b && not m)) && not s)
and_out false b m s = refl
and_out true false m s = refl
and_out true true true s = refl
and_out true true false s = refl

-- what a query needs after a Take
pub needs_take : (ring : ℕ) (past : Journal) (s t c : ℕ) (queries : List ℕ) (q x : ℕ) → IsRun ring past → MayFollow ring past (Take s t c queries) → needs (past ++ Take s t c queries ∷ []) q x ≡ (needs past q x && not ((c == x) && has queries q))
needs_take ring past s t c queries q x r m =
    let line : JournalLine = Take s t c queries in
    ap (λ b. b && (has (wanted (past ++ line ∷ []) q) x && not (is_served (past ++ line ∷ []) q x))) (running_same ring past line q r m (calm_take s t c queries q))
    ∙ (ap (λ (l : List ℕ). is_running past q && (has l x && not (is_served (past ++ line ∷ []) q x))) (flat_none (chunks_for q) past line refl)
    ∙ (ap (λ b. is_running past q && (has (wanted past q) x && not b)) (any_push (serves q x) past line)
    ∙ and_out (is_running past q) (has (wanted past q) x) (is_served past q x) ((c == x) && has queries q)))

-- no more was taken than there are lines
pub tickets_short : (past : Journal) → count_by takes past ≤ length past
tickets_short [] = omega arith
tickets_short (l ∷ ls) = let i : count_by takes ls ≤ length ls = tickets_short ls in let e : count_by takes (l ∷ ls) ≡ cond (takes l) 1 0 + count_by takes ls = count_cons takes l ls in let w : cond (takes l) 1 0 ≤ 1 = weighs (takes l) in omega (arith, i, e, w) where
  weighs : (b : Bool) → cond b 1 0 ≤ 1
  weighs true = omega arith
  weighs false = omega arith

-- the chunk that is taken next is needed
pub needed_is : (ring : ℕ) (past : Journal) (c : ℕ) → next_chunk ring past ≡ Some c → is_needed past c ≡ true
needed_is ring past c e = let w = chosen ring past c e in subst (λ z. is_needed past z ≡ true) (sym w.here) w.first.passes

-- a line that attaches nothing
pub quiet : (line : JournalLine) → is_attach line ≡ false → (q : ℕ) → (attaches q line ≡ false) × (chunks_for q line ≡ [])
quiet (Attach s p chunks) n q = absurd (true≢false n)
quiet (Take s t c queries) n q = (refl, refl)
quiet (Deliver s t queries) n q = (refl, refl)
quiet (Cancel s p) n q = (refl, refl)
quiet (Collect s p) n q = (refl, refl)
quiet (Close s) n q = (refl, refl)

-- what goes on without an Attach
module _ (ring : ℕ) where
  -- without an Attach no query begins to run, or to need a chunk
  pub runs_fall : (past : Journal) (line : JournalLine) (q : ℕ) → MayFollow ring past line → is_attach line ≡ false → is_running (past ++ line ∷ []) q ≡ true → is_running past q ≡ true
  runs_fall past line q m n h =
      let more : Journal = past ++ line ∷ [] in
      let a = and_parts (is_standing more q) _ h in
      let b = and_parts (is_attached more q) _ a.0 in
      let c = and_parts (not (is_cancelled more q)) _ b.1 in
      let here : is_attached past q ≡ true = sym (any_none (attaches q) past line (quiet line n q).0) ∙ b.0 in
      and_from _ _ (standing_from past q here (any_front (cancels q) past (line ∷ []) (not-true _ c.0)) (any_front (loses q) past (line ∷ []) (not-true _ c.1)))
      (not_from_false _ (false_from_ne_true _ (λ w. both_ways _ (not-true _ a.1) (complete_stays ring past line q m here w))))

  pub needs_fall : (past : Journal) (line : JournalLine) (q c : ℕ) → MayFollow ring past line → is_attach line ≡ false → needs (past ++ line ∷ []) q c ≡ true → needs past q c ≡ true
  needs_fall past line q c m n h =
      let t = needs_tells (past ++ line ∷ []) q c h in
      and_from _ _ (runs_fall past line q m n t.running) (and_from _ _ (sym (ap (λ (l : List ℕ). has l c) (flat_none (chunks_for q) past line (quiet line n q).1)) ∙ t.wants) (not_from_false _ (any_front (serves q c) past (line ∷ []) t.unmet)))

-- a query that is not lost needs what it needed
pub needs_deliver : (ring : ℕ) (past : Journal) (s t : ℕ) (lost : List ℕ) (q x : ℕ) → MayFollow ring past (Deliver s t lost) → has lost q ≡ false → needs (past ++ Deliver s t lost ∷ []) q x ≡ needs past q x
needs_deliver ring past s t lost q x m f = same_test (needs more q x) (needs past q x)
    (λ h. needs_fall ring past line q x m refl h)
    (λ h. let w = needs_tells past q x h in
    needs_from more q x (any_stays (attaches q) past (line ∷ []) w.attached) (any_none (cancels q) past line refl ∙ w.not_cancelled) (any_none (loses q) past line f ∙ w.not_lost) (ap (λ (l : List ℕ). has l x) (flat_none (chunks_for q) past line refl) ∙ w.wants) (any_none (serves q x) past line refl ∙ w.unmet))
  where
    line : JournalLine
    line = Deliver s t lost

    more : Journal
    more = past ++ line ∷ []

-- a lost query needs nothing
pub lost_needs_none : (past : Journal) (s t : ℕ) (lost : List ℕ) (q x : ℕ) → has lost q ≡ true → needs (past ++ Deliver s t lost ∷ []) q x ≡ false
lost_needs_none past s t lost q x h = false_from_ne_true _ (λ n. both_ways _ (needs_tells (past ++ Deliver s t lost ∷ []) q x n).not_lost (any_later (loses q) past (Deliver s t lost ∷ []) (or_left (has lost q) false h)))

-- what was collected does not run
pub collected_rests : {ring : ℕ} (past : Journal) (q : ℕ) → IsRun ring past → is_collected past q ≡ true → is_running past q ≡ false
collected_rests {ring} past q r h = (run_ind (λ front. is_collected front q ≡ true → (is_attached front q ≡ true) × (is_running front q ≡ false)) (λ k. absurd (false≢true k)) (λ front line run m i k.
    let before = ⊎_elim i (λ d. was front line m (⊎_elim (λ u. u) (λ u. absurd (false≢true u)) (or_cases (collects q line) false d))) (any_cases (collects q) front (line ∷ []) k) in
    let e = ended_stays front (line ∷ []) q (state_of front q) (run_more front line run m) (ended_now front q before.0 before.1) in
    (e.attached, e.stopped)) past r h).1 where
      was : (front : Journal) (line : JournalLine) → MayFollow ring front line → collects q line ≡ true → (is_attached front q ≡ true) × (is_running front q ≡ false)
      was front (Collect s p) m k = let a = and_parts (is_attached front p) _ m.ended in subst (λ z. (is_attached front z ≡ true) × (is_running front z ≡ false)) (eqb-true p q k) (a.0, not-true _ a.1)
      was front (Take s t c queries) m k = absurd (false≢true k)
      was front (Attach s p chunks) m k = absurd (false≢true k)
      was front (Deliver s t queries) m k = absurd (false≢true k)
      was front (Cancel s p) m k = absurd (false≢true k)
      was front (Close s) m k = absurd (false≢true k)

-- a cancelled query was attached
pub cancelled_attached : {ring : ℕ} (past : Journal) (q : ℕ) → IsRun ring past → is_cancelled past q ≡ true → is_attached past q ≡ true
cancelled_attached {ring} past q r = run_ind (λ front. is_cancelled front q ≡ true → is_attached front q ≡ true) (λ h. absurd (false≢true h)) (λ front line run m i h.
    any_stays (attaches q) front (line ∷ []) (⊎_elim i (λ d. was front line m (⊎_elim (λ u. u) (λ u. absurd (false≢true u)) (or_cases (cancels q line) false d))) (any_cases (cancels q) front (line ∷ []) h))) past r where
      was : (front : Journal) (line : JournalLine) → MayFollow ring front line → cancels q line ≡ true → is_attached front q ≡ true
      was front (Cancel s p) m h = subst (λ z. is_attached front z ≡ true) (eqb-true p q h) (and_parts (is_attached front p) _ (and_parts _ _ m).0).0
      was front (Attach s p chunks) m h = absurd (false≢true h)
      was front (Take s t c queries) m h = absurd (false≢true h)
      was front (Deliver s t queries) m h = absurd (false≢true h)
      was front (Collect s p) m h = absurd (false≢true h)
      was front (Close s) m h = absurd (false≢true h)

-- a value that a list contains cuts it
pub contains_cut : {X : Type 0} (xs : List X) (x : X) → Contains xs x → (before : List X) × (rest : List X) × (xs ≡ before ++ x ∷ rest)
contains_cut xs x there = go xs there.0 there.1 there.2 where
  go : {X : Type 0} {x : X} (xs : List X) (k : ℕ) → k < length xs → get_or xs k x ≡ x → (before : List X) × (rest : List X) × (xs ≡ before ++ x ∷ rest)
  go [] k l e = absurd (omega (arith, l))
  go {X} (y ∷ ys) zero l e = ([], ys, ap (λ (z : X). z ∷ ys) e)
  go {X} (y ∷ ys) (suc k) l e = let w = go ys k (omega (arith, l)) e in (y ∷ w.0, w.1, ap (λ (z : List X). y ∷ z) w.2)
