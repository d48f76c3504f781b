-- How a task's entries are handed in, and its slots paid, one query after another.
use Rattle.std.proofs.Common.{◌≡◌, ℕ, ◌+◌, ◌<◌, ◌==◌, List, [], ◌∷◌, ◌++◌, length, get_or, Bool, true, false, cond, Option, None, Some, IfSome, IsTrue, ◌↔◌, Contains, ⊎_elim, refl, sym, ◌∙◌, ap, subst, arith, eqb-true}
use Rattle.std.specs.List.{last_or}
use Rattle.std.proofs.lemmas.Bool.{both_ways, cases_eq, false_from_ne_true, false≢true, or_cases}
use Rattle.scan_rules.proofs.Lists.{any_cases, any_front}
use Rattle.scan_rules.proofs.Numbers.{contains_has, has_contains}
use Rattle.scan_rules.specs.Numbers.{has}
use Rattle.scan_core.specs.declared.slot.Slot.{Slot}
use Rattle.scan_core.specs.Changes.{Beside}
use Rattle.scan_core.specs.Delivering.{Absorbed, AreTasked, HandedIn, Paid, PaidAll, PaidAt, RefusedAll, Refuses}
use Rattle.scan_core.specs.Slots.{runs}
use Rattle.scan_rules.proofs.Finding.{has_end, last_is}

-- the test of a set, as a test of its list
pub has_told : (numbers : List ℕ) (number : ℕ) (b : Bool) → (IsTrue b ↔ Contains numbers number) → b ≡ has numbers number
has_told numbers number true h = sym (contains_has numbers number (h.0 refl))
has_told numbers number false h = sym (false_from_ne_true _ (λ t. false≢true (h.1 (has_contains numbers number t))))

-- the query of an earlier turn is lower
pub lower : (queries : List ℕ) → AreTasked queries → (turn n : ℕ) → turn < n → n < length queries → get_or queries turn 0 < get_or queries n 0
lower queries t turn n l m = t.ascend turn n 0 l m

-- so it is another one
pub differs : (queries : List ℕ) → AreTasked queries → (turn n : ℕ) → turn < n → n < length queries → get_or queries turn 0 ≡ get_or queries n 0 → ⊥
differs queries t turn n l m e = let low : get_or queries turn 0 < get_or queries n 0 = lower queries t turn n l m in omega (arith, low, e)

-- no slot is paid yet
pub paid_none : (queries lost : List ℕ) (slots : List Slot) → PaidAll queries lost slots slots 0
paid_none queries lost slots = record { len = refl; other = λ j d none. refl; each = λ turn d l. absurd (omega (arith, l)) }

-- one slot more is paid
pub paid_more : (queries lost : List ℕ) (start old new : List Slot) (n : ℕ) (b : Bool) → AreTasked queries → n < length queries → PaidAll queries lost start old n → b ≡ has lost (get_or queries n 0) → PaidAt b old new (get_or queries n 0) → PaidAll queries lost start new (n + 1)
paid_more queries lost start old new n b t low p e a = record {
  len = a.beside.len ∙ p.len;
  other = λ j d none. a.beside.other j d (λ q. none n (omega arith) (sym q)) ∙ p.other j d (λ turn l. none turn (omega (arith, l)));
  each = λ turn d l. ⊎_elim
      (λ q. subst (λ m. Paid (has lost (get_or queries m 0)) (get_or start (get_or queries m 0) d) (get_or new (get_or queries m 0) d)) (sym q)
      (subst (λ z. Paid z (get_or start (get_or queries n 0) d) (get_or new (get_or queries n 0) d)) e
      (subst (λ (z : Slot). Paid b z (get_or new (get_or queries n 0) d)) (p.other (get_or queries n 0) d (λ k m f. differs queries t k n m low f)) (a.here d))))
      (λ ne. subst (Paid (has lost (get_or queries turn 0)) (get_or start (get_or queries turn 0) d)) (sym (a.beside.other (get_or queries turn 0) d (λ f. differs queries t turn n (omega (arith, l, ne)) low f))) (p.each turn d (omega (arith, l, ne))))
      (cases_eq turn n);
}

module _ {P : Type 0} {absorbs : P → P → P → Type 0} where
  -- no entry is handed in yet
  pub handed_none : (slots : List Slot) (queries : List ℕ) (entries pieces : List (Option P)) → HandedIn absorbs slots queries entries pieces pieces [] 0
  handed_none slots queries entries pieces = record { len = refl; other = λ j d none. refl; each = λ turn d l. absurd (omega (arith, l)); losable = λ j h. absurd (false≢true h) }

  -- one entry more is handed in
  pub handed_more : (slots : List Slot) (queries : List ℕ) (entries start old new : List (Option P)) (lost more : List ℕ) (n : ℕ) (b : Bool) (entry : Option P) → AreTasked queries → n < length queries → HandedIn absorbs slots queries entries start old lost n → entry ≡ get_or entries n None → Beside old new (get_or queries n 0) → (b ≡ true → (d : Slot) → runs (get_or slots (get_or queries n 0) d) ≡ true) → (b ≡ false → (d : Slot) → runs (get_or slots (get_or queries n 0) d) ≡ true → Absorbed absorbs entry (get_or old (get_or queries n 0) None) (get_or new (get_or queries n 0) None)) → more ≡ lost ++ cond b (get_or queries n 0 ∷ []) [] → HandedIn absorbs slots queries entries start new more (n + 1)
  handed_more slots queries entries start old new lost more n b entry t low h came beside ran joined grown = record {
    len = beside.len ∙ h.len;
    other = λ j d none. beside.other j d (λ q. none n (omega arith) (sym q)) ∙ h.other j d (λ turn l. none turn (omega (arith, l)));
    each = λ turn d l run kept. ⊎_elim
        (λ q. subst (λ m. Absorbed absorbs (get_or entries m None) (get_or start (get_or queries m 0) None) (get_or new (get_or queries m 0) None)) (sym q)
        (subst (λ (z : Option P). Absorbed absorbs (get_or entries n None) z (get_or new (get_or queries n 0) None)) (h.other (get_or queries n 0) None (λ k m f. differs queries t k n m low f))
        (subst (λ (z : Option P). Absorbed absorbs z (get_or old (get_or queries n 0) None) (get_or new (get_or queries n 0) None)) came
        (joined (not_lost (subst (λ m. has more (get_or queries m 0) ≡ false) q kept)) d (subst (λ m. runs (get_or slots (get_or queries m 0) d) ≡ true) q run)))))
        (λ ne. subst (Absorbed absorbs (get_or entries turn None) (get_or start (get_or queries turn 0) None)) (sym (beside.other (get_or queries turn 0) None (λ f. differs queries t turn n (omega (arith, l, ne)) low f)))
        (h.each turn d (omega (arith, l, ne)) run (any_front (λ y. y == get_or queries turn 0) lost (cond b (get_or queries n 0 ∷ []) []) (subst (λ (z : List ℕ). has z (get_or queries turn 0) ≡ false) grown kept))))
        (cases_eq turn n);
    losable = λ j there. ⊎_elim
        (λ u. let w = h.losable j u in let l = w.1 in (w.0, omega (arith, l), w.2, w.3))
        (λ u. last j b refl u)
        (any_cases (λ y. y == j) lost (cond b (get_or queries n 0 ∷ []) []) (subst (λ (z : List ℕ). has z j ≡ true) grown there));
  } where
    not_lost : has more (get_or queries n 0) ≡ false → b ≡ false
    not_lost f = false_from_ne_true _ (λ u. both_ways _ f (subst (λ (z : List ℕ). has z (get_or queries n 0) ≡ true) (sym (grown ∙ ap (λ z. lost ++ cond z (get_or queries n 0 ∷ []) []) u)) (has_end lost (get_or queries n 0))))

    last : (j : ℕ) (z : Bool) → b ≡ z → has (cond z (get_or queries n 0 ∷ []) []) j ≡ true → (turn : ℕ) × (turn < n + 1) × (get_or queries turn 0 ≡ j) × ((d : Slot) → runs (get_or slots j d) ≡ true)
    last j false e u = absurd (false≢true u)
    last j true e u =
        let q : get_or queries n 0 ≡ j = eqb-true (get_or queries n 0) j (⊎_elim (λ v. v) (λ v. absurd (false≢true v)) (or_cases (get_or queries n 0 == j) false u)) in
        (n, omega arith, q, subst (λ m. (d : Slot) → runs (get_or slots m d) ≡ true) q (ran e))

  -- the queries that are lost so far lie below the next one
  pub lost_low : (slots : List Slot) (queries : List ℕ) (entries start old : List (Option P)) (lost : List ℕ) (n : ℕ) → AreTasked queries → n < length queries → HandedIn absorbs slots queries entries start old lost n → IfSome (last_or None lost) (λ last. last < get_or queries n 0)
  lost_low slots queries entries start old lost n t low h = go (last_or None lost) refl where
    go : (o : Option ℕ) → last_or None lost ≡ o → IfSome o (λ last. last < get_or queries n 0)
    go None e = record {}
    go (Some x) e =
        let f = last_is lost x e in
        let w = h.losable x (ap (λ (z : List ℕ). has z x) f.1 ∙ has_end f.0 x) in
        subst (λ z. z < get_or queries n 0) w.2 (lower queries t w.0 n w.1 low)

  -- one entry more is handed in, and refused if its query is lost by it
  pub refused_more : {refuses : P → P → Type 0} (slots : List Slot) (queries : List ℕ) (entries start old : List (Option P)) (lost more : List ℕ) (n : ℕ) (b : Bool) (entry : Option P) → AreTasked queries → n < length queries → HandedIn absorbs slots queries entries start old lost n → RefusedAll refuses queries entries start lost n → entry ≡ get_or entries n None → (b ≡ true → Refuses refuses (get_or old (get_or queries n 0) None) entry) → more ≡ lost ++ cond b (get_or queries n 0 ∷ []) [] → RefusedAll refuses queries entries start more (n + 1)
  refused_more {refuses} slots queries entries start old lost more n b entry t low h r came refused grown = record {
    each = λ turn l there. ⊎_elim
        (λ q. subst (λ m. Refuses refuses (get_or start (get_or queries m 0) None) (get_or entries m None)) (sym q)
        (subst (λ (z : Option P). Refuses refuses z (get_or entries n None)) (h.other (get_or queries n 0) None (λ k m f. differs queries t k n m low f))
        (subst (λ (z : Option P). Refuses refuses (get_or old (get_or queries n 0) None) z) came
        (refused (is_lost (subst (λ m. has more (get_or queries m 0) ≡ true) q there))))))
        (λ ne. r.each turn (omega (arith, l, ne)) (before turn (omega (arith, l, ne)) there))
        (cases_eq turn n);
  } where
    -- a query of an earlier turn was lost before
    before : (turn : ℕ) → turn < n → has more (get_or queries turn 0) ≡ true → has lost (get_or queries turn 0) ≡ true
    before turn l there = ⊎_elim
        (λ u. u)
        (λ u. absurd (other b u))
        (any_cases (λ y. y == get_or queries turn 0) lost (cond b (get_or queries n 0 ∷ []) []) (subst (λ (z : List ℕ). has z (get_or queries turn 0) ≡ true) grown there)) where
          other : (z : Bool) → has (cond z (get_or queries n 0 ∷ []) []) (get_or queries turn 0) ≡ true → ⊥
          other false u = false≢true u
          other true u = differs queries t turn n l low (sym (eqb-true (get_or queries n 0) (get_or queries turn 0) (⊎_elim (λ v. v) (λ v. absurd (false≢true v)) (or_cases (get_or queries n 0 == get_or queries turn 0) false u))))

    -- the query of this turn was not lost before
    is_lost : has more (get_or queries n 0) ≡ true → b ≡ true
    is_lost there = ⊎_elim
        (λ u. let w = h.losable (get_or queries n 0) u in absurd (differs queries t w.0 n w.1 low w.2))
        (λ u. this b refl u)
        (any_cases (λ y. y == get_or queries n 0) lost (cond b (get_or queries n 0 ∷ []) []) (subst (λ (z : List ℕ). has z (get_or queries n 0) ≡ true) grown there)) where
          this : (z : Bool) → b ≡ z → has (cond z (get_or queries n 0 ∷ []) []) (get_or queries n 0) ≡ true → b ≡ true
          this false e u = absurd (false≢true u)
          this true e u = e
