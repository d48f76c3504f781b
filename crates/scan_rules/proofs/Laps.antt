-- One lap: while a query has a chunk that it was not served, the takes since have different chunks.
use Rattle.std.proofs.Common.{◌≡◌, ℕ, ◌+◌, ◌<◌, ◌≤◌, ◌==◌, List, [], ◌∷◌, ◌++◌, length, true, false, ⊎_elim, refl, sym, ◌∙◌, ap, subst, arith, append-nil, append_assoc, eq-eqb, eqb-true, ◌-◌}
use Rattle.std.proofs.lemmas.Bool.{or_cases, cases_eq, and_from, or_left, true_from_ne_false, false_from_ne_true, false≢true, both_ways, not_from_false, cases_lt}
use Rattle.scan_rules.specs.declared.journal_line.JournalLine.{JournalLine}
use Rattle.scan_rules.specs.declared.journal_line.JournalLine.TheVariants.{Attach, Take, Deliver, Cancel, Collect, Close}
use Rattle.scan_rules.proofs.Lists.{any_cases, any_front, any_later, any_stays, flat_append, flat_push}
use Rattle.scan_rules.proofs.Numbers.{distinct_fits, distinct_push}
use Rattle.scan_rules.proofs.Ring.{at_at, at_low, at_off, off_at, off_within}
use Rattle.scan_rules.proofs.Runs.{follows_here, front_runs, run_after, wanted_kept}
use Rattle.scan_rules.proofs.Scan.{Chosen, attached_low, chosen, needed_from, needs_from, place_low, place_other, place_take, taken_wanted, wanted_low}
use Rattle.scan_rules.proofs.Serving.{needs_takes}
use Rattle.scan_rules.specs.Laps.{LapRepeatsNone, LapServesAll, Stands}
use Rattle.scan_rules.specs.Lines.{attaches, cancels, chunk_of, loses, serves}
use Rattle.scan_rules.specs.Numbers.{are_distinct, has}
use Rattle.scan_rules.specs.Queries.{Journal, is_attached, is_cancelled, is_lost, is_served, wanted}
use Rattle.scan_rules.specs.Runs.{IsRun, MayFollow}
use Rattle.scan_rules.specs.Scan.{chunk_at, is_needed, is_wanted, lap_length, needs, place, taken, offset}

-- the scan is so many steps on from p, over different chunks, and all that q was not served lies ahead
pub record Lapped (ring p q : ℕ) (front : Journal) (over : List ℕ) : Type 0 where
  pub steps : ℕ
  pub low : steps < ring
  pub place_is : place ring front ≡ chunk_at ring p steps
  pub distinct : are_distinct over ≡ true
  pub behind : (c : ℕ) → has over c ≡ true → offset ring p c < steps
  pub ahead : (u : ℕ) → has (wanted front q) u ≡ true → is_served front q u ≡ false → steps ≤ offset ring p u

module _ {ring : ℕ} (p q : ℕ) (p_low : p < ring) where
  -- what q has not met lies at the next chunk or behind it
  reach : (front : Journal) (over : List ℕ) (c u : ℕ) (w : Chosen ring front c) (l : Lapped ring p q front over) → IsRun ring front → Stands front q → has (wanted front q) u ≡ true → is_served front q u ≡ false → l.steps + w.step ≤ offset ring p u
  reach front over c u w l r s wu nu =
      let ul : u < ring = (wanted_low front q u r wu).0 in
      let ol : offset ring p u < ring = off_within ring p u p_low ul in
      let a : l.steps ≤ offset ring p u = l.ahead u wu nu in
      let e : ℕ = offset ring p u - l.steps in
      let se : l.steps + e ≡ offset ring p u = omega (arith, a) in
      let at : chunk_at ring (place ring front) e ≡ u =
      ap (λ z. chunk_at ring z e) l.place_is ∙ (at_at ring p l.steps e p_low (omega (arith, se, ol)) ∙ (ap (chunk_at ring p) se ∙ at_off ring p u p_low ul)) in
      let n : is_needed front u ≡ true = needed_from front q u (attached_low front q r s.attached).1 (needs_from front q u s.attached s.not_cancelled s.not_lost wu nu) in
      let not_before : (e < w.step) → ⊥ = λ b. both_ways _ (w.first.before e b) (subst (λ z. is_needed front z ≡ true) (sym at) n) in
      ⊎_elim (λ b. absurd (not_before b)) (λ b. omega (arith, b, se)) (cases_lt e w.step)

  -- the chunk that is taken next is new
  new_chunk : (front : Journal) (over : List ℕ) (c u : ℕ) (w : Chosen ring front c) (l : Lapped ring p q front over) → IsRun ring front → Stands front q → has (wanted front q) u ≡ true → is_served front q u ≡ false
      → (c ≡ chunk_at ring p (l.steps + w.step)) × (offset ring p c ≡ l.steps + w.step) × (has over c ≡ false)
  new_chunk front over c u w l r s wu nu =
      let far : l.steps + w.step ≤ offset ring p u = reach front over c u w l r s wu nu in
      let ol : offset ring p u < ring = off_within ring p u p_low (wanted_low front q u r wu).0 in
      let here : c ≡ chunk_at ring p (l.steps + w.step) = w.here ∙ (ap (λ z. chunk_at ring z w.step) l.place_is ∙ at_at ring p l.steps w.step p_low (omega (arith, far, ol))) in
      let off : offset ring p c ≡ l.steps + w.step = ap (offset ring p) here ∙ off_at ring p (l.steps + w.step) p_low (omega (arith, far, ol)) in
      (here, off, false_from_ne_true _ (λ t. let b : offset ring p c < l.steps = l.behind c t in absurd (omega (arith, b, off))))

  step_take : (front : Journal) (over : List ℕ) (s t c : ℕ) (queries : List ℕ) (u : ℕ) → IsRun ring front → MayFollow ring front (Take s t c queries) → Stands front q → has (wanted front q) u ≡ true → is_served (front ++ Take s t c queries ∷ []) q u ≡ false → Lapped ring p q front over → Lapped ring p q (front ++ Take s t c queries ∷ []) (over ++ c ∷ [])
  step_take front over s t c queries u r m st wu nu l =
      let line : JournalLine = Take s t c queries in
      let w = chosen ring front c m.next in
      let unmet : (v : ℕ) → is_served (front ++ line ∷ []) q v ≡ false → is_served front q v ≡ false = λ v h. any_front (serves q v) front (line ∷ []) h in
      let new = new_chunk front over c u w l r st wu (unmet u nu) in
      let here : c ≡ chunk_at ring p (l.steps + w.step) = new.0 in
      let off : offset ring p c ≡ l.steps + w.step = new.1 in
      let beyond : (v : ℕ) → has (wanted front q) v ≡ true → is_served (front ++ line ∷ []) q v ≡ false → l.steps + w.step + 1 ≤ offset ring p v = λ v wv nv.
      let far : l.steps + w.step ≤ offset ring p v = reach front over c v w l r st wv (unmet v nv) in
      let vl : v < ring = (wanted_low front q v r wv).0 in
      let served : c ≡ v → is_served (front ++ line ∷ []) q v ≡ true = λ e.
      any_later (serves q v) front (line ∷ []) (or_left (serves q v line) false (and_from (c == v) _ (eq-eqb c v e)
      (subst (λ (l : List ℕ). has l q ≡ true) (sym m.all) (needs_takes front c q (attached_low front q r st.attached).1 (subst (λ z. needs front q z ≡ true) (sym e) (needs_from front q v st.attached st.not_cancelled st.not_lost wv (unmet v nv))))))) in
      let ne : offset ring p v ≡ l.steps + w.step → ⊥ = λ e. both_ways _ nv (served (here ∙ (ap (chunk_at ring p) (sym e) ∙ at_off ring p v p_low vl))) in
      ⊎_elim (λ e. absurd (ne e)) (λ n. omega (arith, far, n)) (cases_eq (offset ring p v) (l.steps + w.step)) in
      let b : l.steps + w.step + 1 ≤ offset ring p u = beyond u wu nu in
      let ol : offset ring p u < ring = off_within ring p u p_low (wanted_low front q u r wu).0 in
      record {
        steps = l.steps + w.step + 1;
        low = omega (arith, b, ol);
        place_is = place_take ring front s t c queries ∙ (ap (λ z. chunk_at ring z 1) here ∙ at_at ring p (l.steps + w.step) 1 p_low (omega (arith, b, ol)));
        distinct = distinct_push over c l.distinct new.2;
        behind = λ x h. ⊎_elim
            (λ t. let i : offset ring p x < l.steps = l.behind x t in omega (arith, i))
            (λ t. let e : c ≡ x = eqb-true c x (⊎_elim (λ u. u) (λ u. absurd (false≢true u)) (or_cases (c == x) false t)) in let o : offset ring p x ≡ l.steps + w.step = ap (offset ring p) (sym e) ∙ off in omega (arith, o))
            (any_cases (λ y. y == x) over (c ∷ []) h);
        ahead = λ v wv nv. beyond v (subst (λ (k : List ℕ). has k v ≡ true) (wanted_kept ring front q line m st.attached) wv) nv;
      }

  step_other : (front : Journal) (over : List ℕ) (line : JournalLine) → IsRun ring front → chunk_of line ≡ [] → MayFollow ring front line → Stands front q → Lapped ring p q front over → Lapped ring p q (front ++ line ∷ []) (over ++ chunk_of line)
  step_other front over line r e m st l = record {
    steps = l.steps;
    low = l.low;
    place_is = place_other ring front line e ∙ l.place_is;
    distinct = subst (λ (k : List ℕ). are_distinct (over ++ k) ≡ true) (sym e) (subst (λ (k : List ℕ). are_distinct k ≡ true) (sym (append-nil over)) l.distinct);
    behind = λ c h. l.behind c (subst (λ (k : List ℕ). has k c ≡ true) (append-nil over) (subst (λ (k : List ℕ). has (over ++ k) c ≡ true) e h));
    ahead = λ v wv nv. l.ahead v (subst (λ (k : List ℕ). has k v ≡ true) (wanted_kept ring front q line m st.attached) wv) (any_front (serves q v) front (line ∷ []) nv);
  }

  step : (front : Journal) (over : List ℕ) (line : JournalLine) (u : ℕ) → IsRun ring front → MayFollow ring front line → Stands front q → has (wanted front q) u ≡ true → is_served (front ++ line ∷ []) q u ≡ false → Lapped ring p q front over → Lapped ring p q (front ++ line ∷ []) (over ++ chunk_of line)
  step front over (Take s t c queries) u r m st wu nu l = step_take front over s t c queries u r m st wu nu l
  step front over (Attach s a chunks) u r m st wu nu l = step_other front over (Attach s a chunks) r refl m st l
  step front over (Deliver s t queries) u r m st wu nu l = step_other front over (Deliver s t queries) r refl m st l
  step front over (Cancel s a) u r m st wu nu l = step_other front over (Cancel s a) r refl m st l
  step front over (Collect s a) u r m st wu nu l = step_other front over (Collect s a) r refl m st l
  step front over (Close s) u r m st wu nu l = step_other front over (Close s) r refl m st l

-- from any place at which q is attached: while a chunk of its list was not served, at most one lap was made
pub lap : {ring : ℕ} (front mid : Journal) (q u : ℕ) → IsRun ring (front ++ mid) → is_attached front q ≡ true → Stands (front ++ mid) q → has (wanted (front ++ mid) q) u ≡ true → is_served (front ++ mid) q u ≡ false → Lapped ring (place ring front) q (front ++ mid) (taken mid)
lap {ring} front mid q u r a st wu nu =
    let zero_low : 0 < ring = let l : u < ring = (wanted_low (front ++ mid) q u r wu).0 in omega (arith, l) in
    let p : ℕ = place ring front in
    let p_low : p < ring = place_low front zero_low (front_runs front mid r) in
    run_after front (λ m. Stands (front ++ m) q → has (wanted (front ++ m) q) u ≡ true → is_served (front ++ m) q u ≡ false → Lapped ring p q (front ++ m) (taken m))
    (λ m line run may ih st' wu' nu'.
    let e : (front ++ m) ++ line ∷ [] ≡ front ++ (m ++ line ∷ []) = append_assoc front m (line ∷ []) in
    let back : Stands (front ++ m) q = record {
      attached = any_stays (attaches q) front m a;
      not_cancelled = any_front (cancels q) (front ++ m) (line ∷ []) (subst (λ (j : Journal). is_cancelled j q ≡ false) (sym e) st'.not_cancelled);
      not_lost = any_front (loses q) (front ++ m) (line ∷ []) (subst (λ (j : Journal). is_lost j q ≡ false) (sym e) st'.not_lost);
    } in
    let w : has (wanted (front ++ m) q) u ≡ true = subst (λ (k : List ℕ). has k u ≡ true) (wanted_kept ring (front ++ m) q line may back.attached) (subst (λ (j : Journal). has (wanted j q) u ≡ true) (sym e) wu') in
    let n : is_served ((front ++ m) ++ line ∷ []) q u ≡ false = subst (λ (j : Journal). is_served j q u ≡ false) (sym e) nu' in
    subst (λ (j : Journal). Lapped ring p q j (taken (m ++ line ∷ []))) e
    (subst (λ (k : List ℕ). Lapped ring p q ((front ++ m) ++ line ∷ []) k) (sym (flat_push chunk_of m line))
    (step p q p_low (front ++ m) (taken m) line u run may back w n (ih back w (any_front (serves q u) (front ++ m) (line ∷ []) n)))))
    [] mid r
    (λ st' wu' nu'. record { steps = 0; low = zero_low; place_is = ap (place ring) (append-nil front) ∙ sym (at_low ring p 0 (omega (arith, p_low)) ∙ omega arith); distinct = refl; behind = λ c h. absurd (false≢true h); ahead = λ v wv nv. omega arith })
    st wu nu

-- up to the take of its last chunk, all takes have different chunks
pub one_lap : {ring : ℕ} (front mid : Journal) (s t c : ℕ) (queries : List ℕ) (rest : Journal) (q u : ℕ) → IsRun ring ((front ++ mid) ++ Take s t c queries ∷ rest) → is_attached front q ≡ true → Stands (front ++ mid) q → has (wanted (front ++ mid) q) u ≡ true → is_served (front ++ mid) q u ≡ false → are_distinct (taken mid ++ c ∷ []) ≡ true
one_lap {ring} front mid s t c queries rest q u r a st wu nu =
    let run : IsRun ring (front ++ mid) = front_runs (front ++ mid) (Take s t c queries ∷ rest) r in
    let zero_low : 0 < ring = let l : u < ring = (wanted_low (front ++ mid) q u run wu).0 in omega (arith, l) in
    let l = lap front mid q u run a st wu nu in
    distinct_push (taken mid) c l.distinct (new_chunk (place ring front) q (place_low front zero_low (front_runs front mid run)) (front ++ mid) (taken mid) c u (chosen ring (front ++ mid) c (follows_here (front ++ mid) (Take s t c queries) rest r).next) l run st wu nu).2

-- after as many takes as there are wanted chunks, q was served all of its list
pub full_lap : {ring : ℕ} (front mid : Journal) (q u : ℕ) → IsRun ring (front ++ mid) → is_attached front q ≡ true → Stands (front ++ mid) q → lap_length ring (front ++ mid) ≤ length (taken mid) → has (wanted (front ++ mid) q) u ≡ true → is_served (front ++ mid) q u ≡ true
full_lap {ring} front mid q u r a st k wu = true_from_ne_false _ (λ nu.
    let l = lap front mid q u r a st wu nu in
    let ah : l.steps ≤ offset ring (place ring front) u = l.ahead u wu nu in
    let new : has (taken mid) u ≡ false = false_from_ne_true _ (λ t. let b : offset ring (place ring front) u < l.steps = l.behind u t in absurd (omega (arith, ah, b))) in
    let fits : length (u ∷ taken mid) ≤ lap_length ring (front ++ mid) = distinct_fits (is_wanted (front ++ mid)) ring (u ∷ taken mid) (and_from _ _ (not_from_false _ new) l.distinct)
    (λ x h. ⊎_elim
    (λ e. subst (λ z. (z < ring) × (is_wanted (front ++ mid) z ≡ true)) (eqb-true u x e) (wanted_low (front ++ mid) q u r wu))
    (λ t. taken_wanted (front ++ mid) x r (subst (λ (l : List ℕ). has l x ≡ true) (sym (flat_append chunk_of front mid)) (any_later (λ y. y == x) (taken front) (taken mid) t)))
    (or_cases (u == x) _ h)) in
    absurd (omega (arith, fits, k)))

-- the two laws
pub lap_repeats_none : LapRepeatsNone
lap_repeats_none ring front mid s t c queries rest q u r a st wu nu = subst (λ (l : List ℕ). are_distinct l ≡ true) (sym (flat_push chunk_of mid (Take s t c queries))) (one_lap front mid s t c queries rest q u r a st wu nu)

-- in the order of their clauses
pub lap_serves_all : LapServesAll
lap_serves_all ring front mid q u r a st k wu = full_lap front mid q u r a st k wu
