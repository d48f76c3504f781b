-- How each line uses up the room that is left for it.
use Rattle.std.proofs.Common.{◌≡◌, ℕ, ◌+◌, ◌<◌, ◌≤◌, ◌==◌, List, [], ◌∷◌, ◌++◌, Bool, true, false, not, cond, ⊎_elim, refl, sym, ◌∙◌, subst, arith, count_by, eq-eqb, eqb-true}
use Rattle.std.proofs.lemmas.Bool.{and_parts, cases_Bool, and_from, false_from_ne_true, both_ways, not-true, not_from_false, or_left, cond-true, cond-false}
use Rattle.scan_rules.specs.declared.journal_line.JournalLine.{JournalLine}
use Rattle.scan_rules.specs.declared.journal_line.JournalLine.TheVariants.{Take, Deliver, Cancel, Collect, Close}
use Rattle.scan_rules.proofs.Lists.{any_front, any_later, any_none, any_stays, any_weaker, count_push}
use Rattle.scan_rules.proofs.Numbers.{but, count_le, count_less}
use Rattle.scan_rules.proofs.Scan.{attached_low, needed_query}
use Rattle.scan_rules.proofs.Serving.{needs_takes, needs_tells}
use Rattle.scan_rules.specs.Lines.{attaches, cancels, closes, collects, is_attach, takes}
use Rattle.scan_rules.specs.Numbers.{below, has}
use Rattle.scan_rules.specs.Queries.{Journal, is_attached, is_cancelled, is_closed, is_running, is_standing}
use Rattle.scan_rules.specs.Runs.{IsRun, MayFollow}
use Rattle.scan_rules.specs.Scan.{is_needed, needs, running_count}
use Rattle.scan_core.specs.Room.{is_open_end, to_come}
use Rattle.scan_rules.proofs.Going.{needs_fall, needs_take, quiet, runs_fall}

-- what an open board adds
abbrev weight0 : Bool → ℕ
weight0 b = cond b 0 1

module _ (ring : ℕ) where
  -- nor does a chunk begin to be needed
  needed_falls : (past : Journal) (line : JournalLine) (c : ℕ) → MayFollow ring past line → is_attach line ≡ false → is_needed (past ++ line ∷ []) c ≡ true → is_needed past c ≡ true
  needed_falls past line c m n h = any_weaker (λ q. needs (past ++ line ∷ []) q c) (λ q. needs past q c) (λ q t. needs_fall ring past line q c m n t) (below 256) h

  -- nor is a query there to be collected that was not
  open_falls : (past : Journal) (line : JournalLine) (q : ℕ) → is_attach line ≡ false → is_open_end (past ++ line ∷ []) q ≡ true → is_open_end past q ≡ true
  open_falls past line q n h = let a = and_parts (is_attached (past ++ line ∷ []) q) _ h in and_from _ _ (sym (any_none (attaches q) past line (quiet line n q).0) ∙ a.0) (not_from_false _ (any_front (collects q) past (line ∷ []) (not-true _ a.1)))

  -- and a closed board stays closed
  closed_falls : (past : Journal) (line : JournalLine) → weight0 (is_closed (past ++ line ∷ [])) ≤ weight0 (is_closed past)
  closed_falls past line = ⊎_elim
      (λ t. let e : is_closed (past ++ line ∷ []) ≡ true = any_stays closes past (line ∷ []) t in let u : weight0 (is_closed (past ++ line ∷ [])) ≡ 0 = cond-true (is_closed (past ++ line ∷ [])) 0 1 e in omega (arith, u))
      (λ f. let u : weight0 (is_closed past) ≡ 1 = cond-false (is_closed past) 0 1 f in subst (λ z. weight0 (is_closed (past ++ line ∷ [])) ≤ z) (sym u) (low (is_closed (past ++ line ∷ []))))
      (cases_Bool (is_closed past)) where
        low : (b : Bool) → weight0 b ≤ 1
        low true = omega arith
        low false = omega arith

  -- what each line but an Attach leaves of what may still come
  record Falls (past : Journal) (line : JournalLine) : Type 0 where
    pub u : count_by (is_needed (past ++ line ∷ [])) (below ring) ≤ count_by (is_needed past) (below ring)
    pub t : count_by takes (past ++ line ∷ []) ≡ count_by takes past + cond (takes line) 1 0
    pub r : running_count (past ++ line ∷ []) ≤ running_count past
    pub k : count_by (is_open_end (past ++ line ∷ [])) (below 256) ≤ count_by (is_open_end past) (below 256)
    pub o : weight0 (is_closed (past ++ line ∷ [])) ≤ weight0 (is_closed past)

  -- so it does
  falls : (past : Journal) (line : JournalLine) → MayFollow ring past line → is_attach line ≡ false → Falls past line
  falls past line m n = record {
    u = count_le (is_needed past) (is_needed (past ++ line ∷ [])) (below ring) (λ c h. needed_falls past line c m n h);
    t = count_push takes past line;
    r = count_le (is_running past) (is_running (past ++ line ∷ [])) (below 256) (λ q h. runs_fall ring past line q m n h);
    k = count_le (is_open_end past) (is_open_end (past ++ line ∷ [])) (below 256) (λ q h. open_falls past line q n h);
    o = closed_falls past line;
  }

  -- each line but an Attach uses up one place; a Deliver gives back the one of its Take
  pub deliver_room : (past : Journal) (s t : ℕ) (queries : List ℕ) → MayFollow ring past (Deliver s t queries) → to_come ring (past ++ Deliver s t queries ∷ []) ≤ to_come ring past
  deliver_room past s t queries m = let f = falls past (Deliver s t queries) m refl in let u = f.u in let a = f.t in let r = f.r in let k = f.k in let o = f.o in omega (arith, u, a, r, k, o)

  -- a Close uses up a line
  pub close_room : (past : Journal) (s : ℕ) → MayFollow ring past (Close s) → to_come ring (past ++ Close s ∷ []) + 1 ≤ to_come ring past
  close_room past s m =
      let f = falls past (Close s) m refl in let u = f.u in let a = f.t in let r = f.r in let k = f.k in
      let v : weight0 (is_closed past) ≡ 1 = cond-false (is_closed past) 0 1 m in
      let w : weight0 (is_closed (past ++ Close s ∷ [])) ≡ 0 = cond-true (is_closed (past ++ Close s ∷ [])) 0 1 (any_later closes past (Close s ∷ []) refl) in
      omega (arith, u, a, r, k, v, w)

  -- so does a Cancel
  pub cancel_room : (past : Journal) (s q : ℕ) → IsRun ring past → MayFollow ring past (Cancel s q) → to_come ring (past ++ Cancel s q ∷ []) + 1 ≤ to_come ring past
  cancel_room past s q run m =
      let f = falls past (Cancel s q) m refl in let u = f.u in let a = f.t in let k = f.k in let o = f.o in
      let low = (attached_low past q run (and_parts (is_attached past q) _ (and_parts (is_standing past q) _ m).0).0).1 in
      let strict : count_by (but (is_running past) q) (below 256) + 1 ≤ running_count past = count_less (is_running past) 256 q low m in
      let most : running_count (past ++ Cancel s q ∷ []) ≤ count_by (but (is_running past) q) (below 256) = count_le (but (is_running past) q) (is_running (past ++ Cancel s q ∷ [])) (below 256) (λ x h. and_from _ _ (runs_fall ring past (Cancel s q) x m refl h) (not_from_false _ (false_from_ne_true _ (λ e. both_ways _ (gone x e) h)))) in
      omega (arith, u, a, k, o, strict, most) where
        gone : (x : ℕ) → (x == q) ≡ true → is_running (past ++ Cancel s q ∷ []) x ≡ false
        gone x e = false_from_ne_true _ (λ h.
            let c = and_parts (not (is_cancelled (past ++ Cancel s q ∷ []) x)) _ (and_parts (is_attached (past ++ Cancel s q ∷ []) x) _ (and_parts (is_standing (past ++ Cancel s q ∷ []) x) _ h).0).1 in
            both_ways _ (not-true _ c.0) (any_later (cancels x) past (Cancel s q ∷ []) (or_left (q == x) false (eq-eqb q x (sym (eqb-true x q e))))))

  -- and a Take
  pub take_room : (past : Journal) (s t c : ℕ) (queries : List ℕ) → IsRun ring past → c < ring → is_needed past c ≡ true → MayFollow ring past (Take s t c queries) → to_come ring (past ++ Take s t c queries ∷ []) + 1 ≤ to_come ring past
  take_room past s t c queries run lc nd m =
      let more : Journal = past ++ Take s t c queries ∷ [] in
      let f = falls past (Take s t c queries) m refl in let a = f.t in let r = f.r in let k = f.k in let o = f.o in
      let strict : count_by (but (is_needed past) c) (below ring) + 1 ≤ count_by (is_needed past) (below ring) = count_less (is_needed past) ring c lc nd in
      let most : count_by (is_needed more) (below ring) ≤ count_by (but (is_needed past) c) (below ring) = count_le (but (is_needed past) c) (is_needed more) (below ring) (λ x h. and_from _ _ (needed_falls past (Take s t c queries) x m refl h) (not_from_false _ (false_from_ne_true _ (λ e. gone x e h)))) in
      omega (arith, a, r, k, o, strict, most) where
        gone : (x : ℕ) → (x == c) ≡ true → is_needed (past ++ Take s t c queries ∷ []) x ≡ true → ⊥
        gone x e h =
            let w = needed_query (past ++ Take s t c queries ∷ []) x h in
            let nx : needs (past ++ Take s t c queries ∷ []) w.0 x ≡ true = and_from _ _ w.1.running (and_from _ _ w.1.wants (not_from_false _ w.1.unmet)) in
            let b = and_parts (needs past w.0 x) _ (sym (needs_take ring past s t c queries w.0 x run m) ∙ nx) in
            let q : x ≡ c = eqb-true x c e in
            let old = needs_tells past w.0 x b.0 in
            let low = (attached_low past w.0 run old.attached).1 in
            both_ways _ (not-true _ b.1) (and_from (c == x) (has queries w.0) (eq-eqb c x (sym q)) (subst (λ (z : List ℕ). has z w.0 ≡ true) (sym m.all) (needs_takes past c w.0 low (subst (λ z. needs past w.0 z ≡ true) q b.0))))

  -- and a Collect
  pub collect_room : (past : Journal) (s q : ℕ) → IsRun ring past → MayFollow ring past (Collect s q) → to_come ring (past ++ Collect s q ∷ []) + 1 ≤ to_come ring past
  collect_room past s q run m =
      let f = falls past (Collect s q) m refl in let u = f.u in let a = f.t in let r = f.r in let o = f.o in
      let here = (and_parts (is_attached past q) _ m.ended).0 in
      let low = (attached_low past q run here).1 in
      let strict : count_by (but (is_open_end past) q) (below 256) + 1 ≤ count_by (is_open_end past) (below 256) = count_less (is_open_end past) 256 q low (and_from _ _ here (not_from_false _ m.not_yet)) in
      let most : count_by (is_open_end (past ++ Collect s q ∷ [])) (below 256) ≤ count_by (but (is_open_end past) q) (below 256) = count_le (but (is_open_end past) q) (is_open_end (past ++ Collect s q ∷ [])) (below 256) (λ x h. and_from _ _ (open_falls past (Collect s q) x refl h) (not_from_false _ (false_from_ne_true _ (λ e. gone x e h)))) in
      omega (arith, u, a, r, o, strict, most) where
        gone : (x : ℕ) → (x == q) ≡ true → is_open_end (past ++ Collect s q ∷ []) x ≡ true → ⊥
        gone x e h = let a = and_parts (is_attached (past ++ Collect s q ∷ []) x) _ h in both_ways _ (not-true _ a.1) (any_later (collects x) past (Collect s q ∷ []) (or_left (q == x) false (eq-eqb q x (sym (eqb-true x q e)))))
