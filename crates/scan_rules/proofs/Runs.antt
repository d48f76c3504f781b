-- Runs: cutting, going on, and the three inductions over lines that may follow.
use Rattle.std.proofs.Common.{◌≡◌, ℕ, ◌+◌, ◌≤◌, ◌==◌, [], ◌∷◌, ◌++◌, Bool, true, false, ⊎_elim, refl, sym, ◌∙◌, ap, subst, arith, append-nil, append_assoc, count_by, ne_eqb}
use Rattle.std.specs.List.{list_any}
use Rattle.std.proofs.lemmas.Bool.{cases_Bool, both_ways, cond-true, cond-false}
use Rattle.scan_rules.specs.declared.journal_line.JournalLine.{JournalLine}
use Rattle.scan_rules.specs.declared.journal_line.JournalLine.TheVariants.{Attach, Take, Deliver, Cancel, Collect, Close}
use Rattle.scan_rules.proofs.Lists.{any_stays, count_push, cut_push, flat_none, nil_is_no_cut, none_counted, weight}
use Rattle.scan_rules.specs.Lines.{attaches, chunks_for}
use Rattle.scan_rules.specs.Queries.{Journal, is_attached, wanted}
use Rattle.scan_rules.specs.Runs.{IsRun, MayFollow}

-- a front of a run is a run
pub front_runs : {ring : ℕ} (front more : Journal) → IsRun ring (front ++ more) → IsRun ring front
front_runs front more r = record { follows = λ before line rest e. r.follows before line (rest ++ more) (ap (λ (l : Journal). l ++ more) e ∙ append_assoc before (line ∷ rest) more) }

-- a run goes on by a line that may follow
pub run_more : {ring : ℕ} (past : Journal) (line : JournalLine) → IsRun ring past → MayFollow ring past line → IsRun ring (past ++ line ∷ [])
run_more {ring} past line r m = record { follows = λ before l rest e. ⊎_elim (λ t. subst (λ (b : Journal). MayFollow ring b l) (sym t.0) (subst (MayFollow ring past) (sym t.1) m)) (λ t. r.follows before l t.0 t.1) (cut_push past line before l rest e) }

-- no lines are a run
pub no_lines_run : (ring : ℕ) → IsRun ring []
no_lines_run ring = record { follows = λ b l r e. absurd (nil_is_no_cut b l r e) }

-- a line of a run may follow those before it
pub follows_here : {ring : ℕ} (front : Journal) (line : JournalLine) (rest : Journal) → IsRun ring (front ++ line ∷ rest) → MayFollow ring front line
follows_here front line rest r = r.follows front line rest refl

-- from a front: what each line that may follow keeps holds of the whole
pub run_on : {ring : ℕ} (P : Journal → Type 0) → ((past : Journal) (line : JournalLine) → IsRun ring past → MayFollow ring past line → P past → P (past ++ line ∷ [])) → (front rest : Journal) → IsRun ring (front ++ rest) → P front → P (front ++ rest)
run_on P step front [] r p = subst P (sym (append-nil front)) p
run_on {ring} P step front (l ∷ ls) r p =
    let e : (front ++ l ∷ []) ++ ls ≡ front ++ l ∷ ls = append_assoc front (l ∷ []) ls in
    subst P e (run_on P step (front ++ l ∷ []) ls (subst (IsRun ring) (sym e) r) (step front l (front_runs front (l ∷ ls) r) (follows_here front l ls r) p))

-- from nothing
pub run_ind : {ring : ℕ} (P : Journal → Type 0) → P [] → ((past : Journal) (line : JournalLine) → IsRun ring past → MayFollow ring past line → P past → P (past ++ line ∷ [])) → (past : Journal) → IsRun ring past → P past
run_ind P none step past r = run_on P step [] past r none

-- over what comes behind a front
pub run_after : {ring : ℕ} (front : Journal) (P : Journal → Type 0) → ((mid : Journal) (line : JournalLine) → IsRun ring (front ++ mid) → MayFollow ring (front ++ mid) line → P mid → P (mid ++ line ∷ [])) → (mid rest : Journal) → IsRun ring (front ++ (mid ++ rest)) → P mid → P (mid ++ rest)
run_after front P step mid [] r p = subst P (sym (append-nil mid)) p
run_after {ring} front P step mid (l ∷ ls) r p =
    let e : (mid ++ l ∷ []) ++ ls ≡ mid ++ l ∷ ls = append_assoc mid (l ∷ []) ls in
    let f : front ++ (mid ++ l ∷ ls) ≡ (front ++ mid) ++ l ∷ ls = sym (append_assoc front mid (l ∷ ls)) in
    let here : IsRun ring ((front ++ mid) ++ l ∷ ls) = subst (IsRun ring) f r in
    subst P e (run_after front P step (mid ++ l ∷ []) ls (subst (λ (j : Journal). IsRun ring (front ++ j)) (sym e) r) (step mid l (front_runs (front ++ mid) (l ∷ ls) here) (follows_here (front ++ mid) l ls here) p))

-- a test that no line passes once one has passed it
pub once : {ring : ℕ} (p : JournalLine → Bool) → ((front : Journal) (line : JournalLine) → MayFollow ring front line → p line ≡ true → list_any p front ≡ false) → (past : Journal) → IsRun ring past → count_by p past ≤ 1
once p new past r = run_ind (λ front. count_by p front ≤ 1) (omega arith) (λ front line run m i.
    let e : count_by p (front ++ line ∷ []) ≡ count_by p front + weight (p line) = count_push p front line in
    ⊎_elim
    (λ t. let z : count_by p front ≡ 0 = none_counted p front (new front line m t) in let w : weight (p line) ≡ 1 = cond-true (p line) 1 0 t in omega (arith, e, z, w))
    (λ f. let w : weight (p line) ≡ 0 = cond-false (p line) 1 0 f in omega (arith, e, i, w))
    (cases_Bool (p line))) past r

-- a query's list never changes once it was attached
pub no_second : (ring : ℕ) (past : Journal) (q : ℕ) (line : JournalLine) → MayFollow ring past line → is_attached past q ≡ true → (attaches q line ≡ false) × (chunks_for q line ≡ [])
no_second ring past q (Attach s p chunks) m a = let n : p == q ≡ false = ne_eqb p q (λ e. both_ways _ (subst (λ z. is_attached past z ≡ false) e m.fresh) a) in (n, cond-false (p == q) chunks [] n)
no_second ring past q (Take s t c queries) m a = (refl, refl)
no_second ring past q (Deliver s t queries) m a = (refl, refl)
no_second ring past q (Cancel s p) m a = (refl, refl)
no_second ring past q (Collect s p) m a = (refl, refl)
no_second ring past q (Close s) m a = (refl, refl)

-- so its list stays through the next line
pub wanted_kept : (ring : ℕ) (past : Journal) (q : ℕ) (line : JournalLine) → MayFollow ring past line → is_attached past q ≡ true → wanted (past ++ line ∷ []) q ≡ wanted past q
wanted_kept ring past q line m a = flat_none (chunks_for q) past line (no_second ring past q line m a).1

-- and through all that follow
pub wanted_stays : {ring : ℕ} (front rest : Journal) (q : ℕ) → IsRun ring (front ++ rest) → is_attached front q ≡ true → wanted (front ++ rest) q ≡ wanted front q
wanted_stays front rest q r a = (run_on (λ past. (is_attached past q ≡ true) × (wanted past q ≡ wanted front q)) (λ past line run m p. (any_stays (attaches q) past (line ∷ []) p.0, wanted_kept _ past q line m p.0 ∙ p.1)) front rest r (a, refl)).1
