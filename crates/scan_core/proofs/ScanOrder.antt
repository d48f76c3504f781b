-- The order in which the scan comes to ascending chunks.
use Rattle.std.proofs.Common.{◌≡◌, ℕ, ◌+◌, ◌-◌, ◌<◌, ◌≤◌, ◌==◌, nat_lt, List, [], ◌∷◌, ◌++◌, AllPairs, true, false, not, filter, reverse, ⊎_elim, sym, ◌∙◌, ap, subst, arith, ltb-true, append_assoc}
use Rattle.std.proofs.lemmas.List.{reverse-append, reverse-reverse}
use Rattle.std.proofs.lemmas.Bool.{cases_lt, lt-ltb, cases_Bool, cond-true, cond-false, both_ways, not-true}
use Rattle.std.proofs.lemmas.List.Kept.{AllPairs-filter}
use Rattle.scan_rules.proofs.Lists.{any_cases, any_later, any_stays}
use Rattle.scan_rules.proofs.Numbers.{filter_has, has_filter, kept_there}
use Rattle.scan_rules.specs.Numbers.{has}
use Rattle.scan_core.specs.Attaching.{ahead_in, is_behind, is_onward}
use Rattle.scan_core.specs.Kept.{IsAhead}
use Rattle.scan_rules.proofs.Ascending.{has_reverse, pairs_append, pairs_cut, pairs_weaker, same_test}
use Rattle.scan_rules.specs.Scan.{offset}

-- ascending chunks in the order of the scan
abbrev scan_in : ℕ → List ℕ → List ℕ
scan_in place chunks = filter (is_onward place) chunks ++ filter (is_behind place) chunks

-- they are the same chunks
pub ahead_members : (place : ℕ) (chunks : List ℕ) (x : ℕ) → has (ahead_in place chunks) x ≡ has chunks x
ahead_members place chunks x = has_reverse (scan_in place chunks) x ∙ same_test (has (scan_in place chunks) x) (has chunks x)
    (λ h. ⊎_elim (λ t. kept_there (is_onward place) chunks x t) (λ t. kept_there (is_behind place) chunks x t) (any_cases (λ z. z == x) (filter (is_onward place) chunks) (filter (is_behind place) chunks) h))
    (λ h. ⊎_elim
    (λ t. any_later (λ z. z == x) (filter (is_onward place) chunks) (filter (is_behind place) chunks) (filter_has (is_behind place) chunks x h t))
    (λ f. any_stays (λ z. z == x) (filter (is_onward place) chunks) (filter (is_behind place) chunks) (filter_has (is_onward place) chunks x h (ap not f)))
    (cases_Bool (nat_lt x place)))

-- how many steps it is to a chunk from the place on, and to one before it
steps_onward : (ring place x : ℕ) → is_onward place x ≡ true → (place ≤ x) × (offset ring place x ≡ x - place)
steps_onward ring place x h =
    let f : nat_lt x place ≡ false = not-true (nat_lt x place) h in
    (⊎_elim (λ l. absurd (both_ways _ f (lt-ltb x place l))) (λ l. l) (cases_lt x place), cond-false (nat_lt x place) (x + ring - place) (x - place) f)

-- and to one before it
steps_behind : (ring place x : ℕ) → is_behind place x ≡ true → (x < place) × (offset ring place x ≡ x + ring - place)
steps_behind ring place x h = (ltb-true x place h, cond-true (nat_lt x place) (x + ring - place) (x - place) h)

-- and each is nearer than those after it
pub scan_ascends : (ring place : ℕ) (chunks : List ℕ) → place ≤ ring → AllPairs (λ a b. a < b) chunks → ((x : ℕ) → has chunks x ≡ true → x < ring) → AllPairs (λ a b. offset ring place a < offset ring place b) (scan_in place chunks)
scan_ascends ring place chunks low up in_ring = pairs_append (λ a b. offset ring place a < offset ring place b) on off
    (pairs_weaker (λ a b. offset ring place a < offset ring place b) (λ a b. a < b) on (AllPairs-filter (λ a b. a < b) (is_onward place) chunks up) (λ x y hx hy l.
    let sx = steps_onward ring place x (has_filter (is_onward place) chunks x hx) in
    let sy = steps_onward ring place y (has_filter (is_onward place) chunks y hy) in
    let a = sx.0 in let b = sx.1 in let c = sy.1 in omega (arith, a, b, c, l)))
    (pairs_weaker (λ a b. offset ring place a < offset ring place b) (λ a b. a < b) off (AllPairs-filter (λ a b. a < b) (is_behind place) chunks up) (λ x y hx hy l.
    let sx = steps_behind ring place x (has_filter (is_behind place) chunks x hx) in
    let sy = steps_behind ring place y (has_filter (is_behind place) chunks y hy) in
    let b = sx.1 in let c = sy.1 in omega (arith, b, c, l, low)))
    (λ x y hx hy.
    let sx = steps_onward ring place x (has_filter (is_onward place) chunks x hx) in
    let sy = steps_behind ring place y (has_filter (is_behind place) chunks y hy) in
    let r : x < ring = in_ring x (kept_there (is_onward place) chunks x hx) in
    let a = sx.0 in let b = sx.1 in let c = sy.1 in omega (arith, a, b, c, r, low))
  where
    on : List ℕ
    on = filter (is_onward place) chunks

    off : List ℕ
    off = filter (is_behind place) chunks

-- so, turned round, the next one stands last
pub ahead_ordered : (ring place : ℕ) (chunks : List ℕ) → place ≤ ring → AllPairs (λ a b. a < b) chunks → ((x : ℕ) → has chunks x ≡ true → x < ring) → IsAhead ring place (ahead_in place chunks)
ahead_ordered ring place chunks low up in_ring = record {
  nearer = λ front c rest x e h.
      let turned : scan_in place chunks ≡ reverse rest ++ c ∷ reverse front =
      sym (reverse-reverse (scan_in place chunks)) ∙ (ap reverse e ∙ (reverse-append front (c ∷ rest) ∙ (ap (λ (l : List ℕ). l ++ reverse front) (reverse-append (c ∷ []) rest) ∙ append_assoc (reverse rest) (c ∷ []) (reverse front)))) in
      pairs_cut (λ a b. offset ring place a < offset ring place b) (reverse rest) c (reverse front) x (subst (AllPairs (λ a b. offset ring place a < offset ring place b)) turned (scan_ascends ring place chunks low up in_ring)) (has_reverse front x ∙ h);
}
