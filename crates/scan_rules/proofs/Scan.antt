-- Where the scan stands, and what it takes next.
use Rattle.std.proofs.Common.{◌≡◌, ℕ, ◌<◌, ◌≤◌, ◌==◌, List, [], ◌∷◌, ◌++◌, Bool, true, false, cond, Option, Some, None, ⊎_elim, refl, sym, ◌∙◌, ap, subst, arith, find, eqb-true, nat_lt, ltb-true}
use Rattle.std.specs.List.{list_any, last_or}
use Rattle.std.proofs.lemmas.Bool.{or_cases, cases_Bool, and_from, or_left, false_from_ne_true, false≢true, both_ways, not_from_false}
use Rattle.std.specs.Prelude.{option_map}
use Rattle.scan_rules.specs.declared.journal_line.JournalLine.{JournalLine}
use Rattle.scan_rules.specs.declared.journal_line.JournalLine.TheVariants.{Attach, Take, Deliver, Cancel, Collect, Close}
use Rattle.scan_rules.proofs.Lists.{any_cases, any_finds, any_later, any_stays, any_there, flat_none, flat_push, last_push}
use Rattle.scan_rules.proofs.Numbers.{IsFirst, all_has, find_below, has_below}
use Rattle.scan_rules.proofs.Ring.{at_within, next_low}
use Rattle.scan_rules.proofs.Runs.{run_ind, front_runs, follows_here}
use Rattle.scan_rules.proofs.Serving.{Needs, given_is_served, needs_tells, needs_takes, standing_from}
use Rattle.scan_rules.specs.Lines.{attaches, chunk_of, chunks_for, wants_chunk}
use Rattle.scan_rules.specs.Numbers.{below, has}
use Rattle.scan_rules.specs.Queries.{Journal, is_attached, is_cancelled, is_given, is_lost, is_served, wanted}
use Rattle.scan_rules.specs.Runs.{IsRun, MayFollow}
use Rattle.scan_rules.specs.Scan.{chunk_at, is_needed, is_wanted, needs, next_chunk, place, place_after, taken}

-- what the choice of the next chunk tells
pub record Chosen (ring : ℕ) (past : Journal) (c : ℕ) : Type 0 where
  pub step : ℕ
  pub here : c ≡ chunk_at ring (place ring past) step
  pub first : IsFirst (λ d. is_needed past (chunk_at ring (place ring past) d)) ring step

-- what is found is the first step that passes
chosen_from : (ring p : ℕ) (test : ℕ → Bool) (c : ℕ) → option_map (chunk_at ring p) (find (λ d. test (chunk_at ring p d)) (below ring)) ≡ Some c → (d : ℕ) × (c ≡ chunk_at ring p d) × IsFirst (λ d. test (chunk_at ring p d)) ring d
chosen_from ring p test c e = go (find (λ d. test (chunk_at ring p d)) (below ring)) refl e where
  go : (o : Option ℕ) → find (λ d. test (chunk_at ring p d)) (below ring) ≡ o → option_map (chunk_at ring p) o ≡ Some c → (d : ℕ) × (c ≡ chunk_at ring p d) × IsFirst (λ d. test (chunk_at ring p d)) ring d
  go None f e = absurd (cc)
  go (Some d) f e = (d, cc, find_below (λ d. test (chunk_at ring p d)) ring d f)

-- the next chunk is the first needed one
pub chosen : (ring : ℕ) (past : Journal) (c : ℕ) → next_chunk ring past ≡ Some c → Chosen ring past c
chosen ring past c e = let w = chosen_from ring (place ring past) (is_needed past) c e in record { step = w.0; here = w.1; first = w.2 }

-- attached queries have numbers from 1 to 255
pub attached_low : {ring : ℕ} (past : Journal) (q : ℕ) → IsRun ring past → is_attached past q ≡ true → (1 ≤ q) × (q < 256)
attached_low {ring} past q r = run_ind (λ front. is_attached front q ≡ true → (1 ≤ q) × (q < 256)) (λ h. absurd (false≢true h)) (λ front line run m p h. ⊎_elim p (λ t. low line front m (⊎_elim (λ u. u) (λ u. absurd (false≢true u)) (or_cases (attaches q line) false t))) (any_cases (attaches q) front (line ∷ []) h)) past r where
  low : (line : JournalLine) (front : Journal) → MayFollow ring front line → attaches q line ≡ true → (1 ≤ q) × (q < 256)
  low (Attach s p chunks) front m h = let e : p ≡ q = eqb-true p q h in let a = m.from_1 in let b = m.to_255 in (omega (arith, e, a), omega (arith, e, b))
  low (Take s t c queries) front m h = absurd (false≢true h)
  low (Deliver s t queries) front m h = absurd (false≢true h)
  low (Cancel s p) front m h = absurd (false≢true h)
  low (Collect s p) front m h = absurd (false≢true h)
  low (Close s) front m h = absurd (false≢true h)

-- each chunk of a list is below the ring, and some query is attached with it
pub wanted_low : {ring : ℕ} (past : Journal) (q c : ℕ) → IsRun ring past → has (wanted past q) c ≡ true → (c < ring) × (is_wanted past c ≡ true)
wanted_low {ring} past q c r = run_ind (λ front. has (wanted front q) c ≡ true → (c < ring) × (is_wanted front c ≡ true)) (λ h. absurd (false≢true h))
    (λ front line run m p h. ⊎_elim (λ t. let w = p t in (w.0, any_stays (wants_chunk c) front (line ∷ []) w.1)) (λ t. let w = low line front m t in (w.0, any_later (wants_chunk c) front (line ∷ []) (or_left (wants_chunk c line) false w.1)))
    (any_cases (λ y. y == c) (wanted front q) (chunks_for q line) (subst (λ (l : List ℕ). has l c ≡ true) (flat_push (chunks_for q) front line) h))) past r where
      low : (line : JournalLine) (front : Journal) → MayFollow ring front line → has (chunks_for q line) c ≡ true → (c < ring) × (wants_chunk c line ≡ true)
      low (Attach s p chunks) front m h = ⊎_elim
          (λ t. let g : has chunks c ≡ true = subst (λ b. has (cond b chunks []) c ≡ true) t h in (ltb-true c ring (all_has (λ c. nat_lt c ring) chunks c m.in_ring g), g))
          (λ f. absurd (false≢true (subst (λ b. has (cond b chunks []) c ≡ true) f h)))
          (cases_Bool (p == q))
      low (Take s t d queries) front m h = absurd (false≢true h)
      low (Deliver s t queries) front m h = absurd (false≢true h)
      low (Cancel s p) front m h = absurd (false≢true h)
      low (Collect s p) front m h = absurd (false≢true h)
      low (Close s) front m h = absurd (false≢true h)

-- a needed chunk has a query that needs it
pub needed_query : (past : Journal) (c : ℕ) → is_needed past c ≡ true → (q : ℕ) × Needs past q c
needed_query past c h = let f = any_finds (λ q. needs past q c) (below 256) h in (f.1, needs_tells past f.1 c f.4)

-- each chunk that was taken is wanted by some query, and is below the ring
pub taken_wanted : {ring : ℕ} (past : Journal) (c : ℕ) → IsRun ring past → has (taken past) c ≡ true → (c < ring) × (is_wanted past c ≡ true)
taken_wanted {ring} past c r = run_ind (λ front. has (taken front) c ≡ true → (c < ring) × (is_wanted front c ≡ true)) (λ h. absurd (false≢true h))
    (λ front line run m p h. let was : (c < ring) × (is_wanted front c ≡ true) = ⊎_elim p (λ t. low line front run m t) (any_cases (λ y. y == c) (taken front) (chunk_of line) (subst (λ (l : List ℕ). has l c ≡ true) (flat_push chunk_of front line) h)) in
    (was.0, any_stays (wants_chunk c) front (line ∷ []) was.1)) past r where
      low : (line : JournalLine) (front : Journal) → IsRun ring front → MayFollow ring front line → has (chunk_of line) c ≡ true → (c < ring) × (is_wanted front c ≡ true)
      low (Take s t d queries) front run m h =
          let e : d ≡ c = eqb-true d c (⊎_elim (λ u. u) (λ u. absurd (false≢true u)) (or_cases (d == c) false h)) in
          let w = chosen ring front d m.next in
          let k : is_needed front d ≡ true = subst (λ z. is_needed front z ≡ true) (sym w.here) w.first.passes in
          let n = needed_query front c (subst (λ z. is_needed front z ≡ true) e k) in
          wanted_low front n.0 c run n.1.wants
      low (Attach s p chunks) front run m h = absurd (false≢true h)
      low (Deliver s t queries) front run m h = absurd (false≢true h)
      low (Cancel s p) front run m h = absurd (false≢true h)
      low (Collect s p) front run m h = absurd (false≢true h)
      low (Close s) front run m h = absurd (false≢true h)

-- a take moves the place behind its chunk
pub place_take : (ring : ℕ) (front : Journal) (s t c : ℕ) (queries : List ℕ) → place ring (front ++ Take s t c queries ∷ []) ≡ chunk_at ring c 1
place_take ring front s t c queries = ap (λ (l : List ℕ). place_after ring (last_or None l)) (flat_push chunk_of front (Take s t c queries)) ∙ ap (place_after ring) (last_push None (taken front) c)

-- no other line moves it
pub place_other : (ring : ℕ) (front : Journal) (line : JournalLine) → chunk_of line ≡ [] → place ring (front ++ line ∷ []) ≡ place ring front
place_other ring front line e = ap (λ (l : List ℕ). place_after ring (last_or None l)) (flat_none chunk_of front line e)

-- the place is within the ring
pub place_low : {ring : ℕ} (past : Journal) → 0 < ring → IsRun ring past → place ring past < ring
place_low {ring} past l r = run_ind (λ front. place ring front < ring) l (λ front line run m p. low line front m p) past r where
  low : (line : JournalLine) (front : Journal) → MayFollow ring front line → place ring front < ring → place ring (front ++ line ∷ []) < ring
  low (Take s t c queries) front m p =
      let w = chosen ring front c m.next in
      let i : c < ring = subst (λ z. z < ring) (sym w.here) (at_within ring (place ring front) w.step p w.first.low) in
      subst (λ z. z < ring) (sym (place_take ring front s t c queries)) (next_low ring c i)
  low (Attach s q chunks) front m p = subst (λ z. z < ring) (sym (place_other ring front (Attach s q chunks) refl)) p
  low (Deliver s t queries) front m p = subst (λ z. z < ring) (sym (place_other ring front (Deliver s t queries) refl)) p
  low (Cancel s q) front m p = subst (λ z. z < ring) (sym (place_other ring front (Cancel s q) refl)) p
  low (Collect s q) front m p = subst (λ z. z < ring) (sym (place_other ring front (Collect s q) refl)) p
  low (Close s) front m p = subst (λ z. z < ring) (sym (place_other ring front (Close s) refl)) p

-- a standing query needs each chunk of its list that it was not served
pub needs_from : (past : Journal) (q u : ℕ) → is_attached past q ≡ true → is_cancelled past q ≡ false → is_lost past q ≡ false → has (wanted past q) u ≡ true → is_served past q u ≡ false → needs past q u ≡ true
needs_from past q u a c l w n = and_from _ _
    (and_from _ _ (standing_from past q a c l) (not_from_false _ (false_from_ne_true _ (λ t. both_ways _ n (given_is_served past past q u (all_has (is_given past q) (wanted past q) u t w))))))
    (and_from _ _ w (not_from_false _ n))

-- what a query needs is needed
pub needed_from : (past : Journal) (q u : ℕ) → q < 256 → needs past q u ≡ true → is_needed past u ≡ true
needed_from past q u l n = let f = any_finds (λ y. y == q) (below 256) (has_below 256 q l) in
    ap (list_any (λ p. needs past p u)) f.3 ∙ any_there (λ p. needs past p u) f.0 f.1 f.2 (subst (λ z. needs past z u ≡ true) (sym (eqb-true f.1 q f.4)) n)

-- a take serves each query that needs its chunk
pub take_serves : {ring : ℕ} (before rest : Journal) (s t c : ℕ) (queries : List ℕ) (q : ℕ) → IsRun ring (before ++ Take s t c queries ∷ rest) → needs before q c ≡ true → has queries q ≡ true
take_serves before rest s t c queries q r n =
    let may = follows_here before (Take s t c queries) rest r in
    let low = attached_low before q (front_runs before (Take s t c queries ∷ rest) r) (needs_tells before q c n).attached in
    subst (λ (l : List ℕ). has l q ≡ true) (sym may.all) (needs_takes before c q low.1 n)
