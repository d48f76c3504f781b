-- What a query wants and was given: at its start, at each Deliver of one of its tasks, and at its end.
use Rattle.std.proofs.Common.{◌≡◌, ℕ, ◌+◌, ◌<◌, ◌≤◌, ◌==◌, List, [], ◌∷◌, ◌++◌, length, Bool, true, false, not, ◌&&◌, ◌||◌, cond, zero, suc, ⊎_elim, refl, sym, ◌∙◌, ap, subst, arith, filter, count_by, eq-eqb, eqb-true}
use Rattle.std.specs.List.{list_all}
use Rattle.std.proofs.lemmas.Bool.{and_from, and_parts, both_ways, cases_Bool, cond-true, cond-false, false_from_ne_true, false≢true, not-true, or_cases, or_left, or_right}
use Rattle.scan_rules.specs.declared.journal_line.JournalLine.{JournalLine}
use Rattle.scan_rules.specs.declared.journal_line.JournalLine.TheVariants.{Attach, Take, Deliver, Cancel, Collect, Close}
use Rattle.scan_rules.proofs.Ascending.{same_test}
use Rattle.scan_rules.proofs.Ends.{end_is_last}
use Rattle.scan_rules.proofs.Giving.{is_given_deliver, is_given_same, not_given_before, served_is}
use Rattle.scan_rules.proofs.Lists.{any_finds, any_later, any_stays, any_there, count_push, count_split, flat_none, none_counted, weight}
use Rattle.scan_rules.proofs.Numbers.{below_has, but, filter_has, has_filter, kept_there}
use Rattle.scan_rules.proofs.Runs.{follows_here, front_runs, wanted_stays}
use Rattle.scan_rules.proofs.Serving.{given_is_served, served_is_wanted}
use Rattle.scan_rules.specs.Lines.{cancels, chunks_for, loses, serves, wants_chunk}
use Rattle.scan_rules.specs.Numbers.{below, has}
use Rattle.scan_rules.specs.Queries.{Journal, given, is_attached, is_complete, is_given, is_running, is_standing, wanted}
use Rattle.scan_rules.specs.Runs.{IsRun, MayFollow}
use Rattle.scan_rules.specs.Scan.{is_wanted}
use Rattle.scan_rules.specs.Wishes.{CompleteIsGiven, FreshHasNothing, GivenGrows, LapIsFilled, NoWishNoLoss}

-- where nothing passes, nothing is kept
filter_none : (p : ℕ → Bool) (xs : List ℕ) → ((x : ℕ) → p x ≡ false) → filter p xs ≡ []
filter_none p [] h = refl
filter_none p (x ∷ xs) h = cond-false (p x) (x ∷ filter p xs) (filter p xs) (h x) ∙ filter_none p xs h

-- where all pass, all are kept
filter_all : (p : ℕ → Bool) (xs : List ℕ) → list_all p xs ≡ true → filter p xs ≡ xs
filter_all p [] h = refl
filter_all p (x ∷ xs) h =
    let parts = and_parts (p x) (list_all p xs) h in
    cond-true (p x) (x ∷ filter p xs) (filter p xs) parts.0 ∙ ap (λ (l : List ℕ). x ∷ l) (filter_all p xs parts.1)

pub complete_is_given : CompleteIsGiven
complete_is_given past q whole = filter_all (is_given past q) (wanted past q) whole

-- what was given to a query that is not attached: nothing
unattached_given : (ring : ℕ) (past : Journal) (q c : ℕ) → IsRun ring past → is_attached past q ≡ false → is_given past q c ≡ false
unattached_given ring past q c r n = false_from_ne_true _ (λ h. both_ways _ n (served_is_wanted past q c r (given_is_served past past q c h)).0)

pub fresh_has_nothing : FreshHasNothing
fresh_has_nothing ring past seat q chunks run =
    let line : JournalLine = Attach seat q chunks in
    let before : IsRun ring past = front_runs past (line ∷ []) run in
    let may = follows_here past line [] run in
    filter_none (is_given (past ++ line ∷ []) q) (wanted (past ++ line ∷ []) q)
    (λ c. is_given_same ring past line q c before may refl ∙ unattached_given ring past q c before may.fresh)

-- what was just given is of the list, for it was served
more_has : (w g e : Bool) → (e ≡ true → w ≡ true) → (g ≡ true → w ≡ true) → (b f : Bool) → (b ≡ true → (w ≡ true) × ((g || e) ≡ true)) → (w ≡ true → (g || e) ≡ true → b ≡ true)
    → (f ≡ true → (w ≡ true) × (g ≡ true)) → (w ≡ true → g ≡ true → f ≡ true) → b ≡ (f || e)
more_has w g e ew gw b f bt bf ft ff = same_test b (f || e)
    (λ h. let t = bt h in ⊎_elim (λ k. or_left f e (ff t.0 k)) (λ k. or_right f e k) (or_cases g e t.1))
    (λ h. ⊎_elim (λ k. let t = ft k in bf t.0 (or_left g e t.1)) (λ k. bf (ew k) (or_right g e k)) (or_cases f e h))

pub given_grows : GivenGrows
given_grows ring before rest by ticket chunk queries seat lost q run there = (
  false_from_ne_true _ (λ h. both_ways _ new (has_filter (is_given past q) (wanted past q) chunk h)),
  λ c. more_has (has (wanted past q) c) (is_given past q c) (chunk == c) (of_list c)
      (λ h. (served_is_wanted past q c here (given_is_served past past q c h)).1)
      (has (given (past ++ line ∷ []) q) c) (has (given past q) c)
      (λ h. (sym (ap (λ (l : List ℕ). has l c) same) ∙ kept_there (is_given (past ++ line ∷ []) q) (wanted (past ++ line ∷ []) q) c h, sym (gives c) ∙ has_filter (is_given (past ++ line ∷ []) q) (wanted (past ++ line ∷ []) q) c h))
      (λ w g. filter_has (is_given (past ++ line ∷ []) q) (wanted (past ++ line ∷ []) q) c (ap (λ (l : List ℕ). has l c) same ∙ w) (gives c ∙ g))
      (λ h. (kept_there (is_given past q) (wanted past q) c h, has_filter (is_given past q) (wanted past q) c h))
      (λ w g. filter_has (is_given past q) (wanted past q) c w g),
) where
  take : JournalLine
  take = Take by ticket chunk queries

  line : JournalLine
  line = Deliver seat ticket lost

  past : Journal
  past = before ++ take ∷ rest

  here : IsRun ring past
  here = front_runs past (line ∷ []) run

  may : MayFollow ring past (Deliver seat ticket lost)
  may = follows_here past line [] run

  new : is_given past q chunk ≡ false
  new = not_given_before before by ticket chunk queries rest q here there may.in_flight

  same : wanted (past ++ line ∷ []) q ≡ wanted past q
  same = flat_none (chunks_for q) past line refl

  and_one : (b : Bool) → (b && true) ≡ b
  and_one true = refl
  and_one false = refl

  gives : (c : ℕ) → is_given (past ++ line ∷ []) q c ≡ (is_given past q c || (chunk == c))
  gives c = is_given_deliver past seat ticket lost q c
      ∙ ap (λ b. is_given past q c || b) (served_is before by ticket chunk queries rest q c here ∙ (ap (λ b. (chunk == c) && b) there ∙ and_one (chunk == c)))

  of_list : (c : ℕ) → (chunk == c) ≡ true → has (wanted past q) c ≡ true
  of_list c h = (served_is_wanted past q c here (any_there (serves q c) before take rest (and_from (chunk == c) _ h there))).1

-- a query runs only where it wants something
idle_without_wish : (ring : ℕ) (front : Journal) (line : JournalLine) (rest : Journal) (q : ℕ) → IsRun ring (front ++ line ∷ rest) → wanted (front ++ line ∷ rest) q ≡ [] → is_running front q ≡ false
idle_without_wish ring front line rest q run none = false_from_ne_true _ (λ h.
    let a = and_parts (is_standing front q) _ h in
    let b = and_parts (is_attached front q) _ a.0 in
    let e : wanted front q ≡ [] = sym (wanted_stays front (line ∷ rest) q run b.0) ∙ none in
    both_ways (is_complete front q) (not-true _ a.1) (ap (λ (l : List ℕ). list_all (is_given front q) l) e))

pub no_wish_no_loss : NoWishNoLoss
no_wish_no_loss ring past q run none = (
  false_from_ne_true _ (λ h. let f = any_finds (cancels q) past h in both_ways _ (last f.0 f.1 f.2 f.3).0 f.4),
  false_from_ne_true _ (λ h. let f = any_finds (loses q) past h in both_ways _ (last f.0 f.1 f.2 f.3).1 f.4),
) where
  last : (front : Journal) (line : JournalLine) (rest : Journal) → past ≡ front ++ line ∷ rest → (cancels q line ≡ false) × (loses q line ≡ false)
  last front line rest e =
      let r : IsRun ring (front ++ line ∷ rest) = subst (IsRun ring) e run in
      end_is_last ring front q line (follows_here front line rest r) (idle_without_wish ring front line rest q r (ap (λ (l : Journal). wanted l q) (sym e) ∙ none))

-- one number alone is this one
one_below : (n x : ℕ) → count_by (λ y. y == x) (below n) ≤ 1
unfolding below
one_below zero x = omega arith
one_below (suc n) x =
    let e : count_by (λ y. y == x) (below n ++ n ∷ []) ≡ count_by (λ y. y == x) (below n) + cond (n == x) 1 0 = count_push (λ y. y == x) (below n) n in
    let i : count_by (λ y. y == x) (below n) ≤ 1 = one_below n x in
    ⊎_elim
    (λ t. let z : count_by (λ y. y == x) (below n) ≡ 0 = none_counted (λ y. y == x) (below n) (false_from_ne_true _ (λ h. let l : x < n = below_has n x h in let q : n ≡ x = eqb-true n x t in absurd (omega (arith, l, q)))) in
    let w : weight (n == x) ≡ 1 = cond-true (n == x) 1 0 t in omega (arith, e, z, w))
    (λ f. let w : weight (n == x) ≡ 0 = cond-false (n == x) 1 0 f in omega (arith, e, i, w))
    (cases_Bool (n == x))

-- numbers below a bound that are all in a list are no more than the list has
pub count_among : (p : ℕ → Bool) (n : ℕ) (xs : List ℕ) → ((x : ℕ) → p x ≡ true → has xs x ≡ true) → count_by p (below n) ≤ length xs
count_among p n [] h = let e : count_by p (below n) ≡ 0 = none_counted p (below n) (false_from_ne_true _ (λ t. let f = any_finds p (below n) t in false≢true (h f.1 f.4))) in omega (arith, e)
count_among p n (x ∷ xs) h =
    let s : count_by p (below n) ≤ count_by (λ y. y == x) (below n) + count_by (but p x) (below n) = count_split p (λ y. y == x) (below n) in
    let one : count_by (λ y. y == x) (below n) ≤ 1 = one_below n x in
    let rest : count_by (but p x) (below n) ≤ length xs = count_among (but p x) n xs (λ y t.
    let parts = and_parts (p y) (not (y == x)) t in
    ⊎_elim (λ e. absurd (both_ways (y == x) (not-true (y == x) parts.1) (eq-eqb y x (sym (eqb-true x y e))))) (λ r. r) (or_cases (x == y) (has xs y) (h y parts.0))) in
    omega (arith, s, one, rest)

-- a chunk that a line wants is of its query's list
wanted_of : (past : Journal) (chunk : ℕ) → is_wanted past chunk ≡ true → (q : ℕ) × (has (wanted past q) chunk ≡ true)
wanted_of [] chunk h = absurd (false≢true h)
wanted_of (line ∷ past) chunk h = ⊎_elim
    (λ t. let w = here line t in (w.0, any_stays (λ y. y == chunk) (chunks_for w.0 line) (wanted past w.0) w.1))
    (λ t. let w = wanted_of past chunk t in (w.0, any_later (λ y. y == chunk) (chunks_for w.0 line) (wanted past w.0) w.1))
    (or_cases (wants_chunk chunk line) (is_wanted past chunk) h) where
      here : (line : JournalLine) → wants_chunk chunk line ≡ true → (q : ℕ) × (has (chunks_for q line) chunk ≡ true)
      here (Attach s q chunks) t = (q, ap (λ (l : List ℕ). has l chunk) (cond-true (q == q) chunks [] (eq-eqb q q refl)) ∙ t)
      here (Take s u c queries) t = absurd (false≢true t)
      here (Deliver s u lost) t = absurd (false≢true t)
      here (Cancel s q) t = absurd (false≢true t)
      here (Collect s q) t = absurd (false≢true t)
      here (Close s) t = absurd (false≢true t)

pub lap_is_filled : LapIsFilled
lap_is_filled ring past filled each = count_among (is_wanted past) ring filled (λ c t. let w = wanted_of past c t in each w.0 c w.1)
