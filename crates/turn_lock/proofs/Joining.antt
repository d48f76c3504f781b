-- Ending one seat in another keeps the rule, and a load afterwards tells that what both had seen begins the longer list.
use Rattle.std.proofs.Common.{◌≡◌, ◌≢◌, ℕ, ◌<◌, zero, suc, List, [], ◌∷◌, Option, true, false, ◌⊎◌, inl, inr, ⊎_elim, refl, sym, ◌∙◌, ap, subst, arith}
use Rattle.std.proofs.Common.{slice_set, slice_index, slice_index_or, Contains}
use Rattle.std.proofs.lemmas.List.Elements.{Contains-append_cases}
use mathlib.Core.Option.{none}
use Rattle.atomic_table.proofs.Lists.{set_else}
use Rattle.atomic_table.specs.Table.{Me, step, keeps, Allows, Joins}
use Rattle.turn_lock.specs.Pasts.{of_seat, longer}
use Rattle.turn_lock.specs.Rule.{Kept, Fits, AreApart, IsHeld, HasView, TurnState}
use Rattle.turn_lock.specs.Steps.{heard}
use Rattle.turn_lock.specs.Views.{joining, spent_view}
use Rattle.turn_lock.specs.declared.view.View.{View}
use Rattle.turn_lock.proofs.PastLemmas.{longest, same_between}
use Rattle.turn_lock.proofs.ViewLemmas.{each_set, both_set, not_holder, stays, one_word, fits_known, false_not_true}

only_one : {A : Type 0} (x y : A) (k : ℕ) → k < 1 → slice_index_or (x ∷ []) k y ≡ y → x ≡ y
only_one x y zero h e = e
only_one x y (suc k) h e = absurd (omega (arith, h))

module _ {R E : Type 0} where
  -- which ended seats the joined one keeps: the first's, the other itself, or the other's
  ended_cases : (v w : View R E) (n : ℕ) (es : List E) → Contains (joining v w).ended (n, es)
      → Contains v.ended (n, es) ⊎ ((n ≡ w.number) × (es ≡ w.mine)) ⊎ Contains w.ended (n, es)
  ended_cases v w n es h = ⊎_elim (λ i. inl i)
      (λ i. inr (⊎_elim (λ j. inl (let e = only_one (w.number, w.mine) (n, es) j.0 j.1 j.2 in (ap (λ (p : ℕ × List E). p.0) (sym e), ap (λ (p : ℕ × List E). p.1) (sym e))))
      (λ j. inr j)
      (Contains-append_cases ((w.number, w.mine) ∷ []) w.ended (n, es) i)))
      (Contains-append_cases v.ended ((w.number, w.mine) ∷ w.ended) (n, es) h)

  joined_fits : {seat_of : E → ℕ} {root : R} {now : List E} {made : ℕ} (v w : View R E) → Fits seat_of root now made v
      → Fits seat_of root now made w → AreApart v w → AreApart w v → Fits seat_of root now made (joining v w)
  joined_fits {seat_of} {root} {now} {made} v w f g a b =
      let all : List E = longer v.seen w.seen in
      let l = longest v.seen w.seen now f.seen g.seen in record {
        root_is = f.root_is;
        below = f.below;
        first = f.first;
        mine = f.mine;
        seen = l.2;
        before = l.0;
        heard = l.1;
        mine_seen = same_between seat_of v.seen all now l.0 l.2 v.number v.mine f.mine_seen f.mine;
        ended = λ n es h. ⊎_elim
            (λ i. let e = f.ended n es i in (e.0, e.1, e.2, same_between seat_of v.seen all now l.0 l.2 n es e.3 e.2))
            (λ r. ⊎_elim
            (λ i. (
              subst (λ (k : ℕ). k < made) (sym i.0) g.below,
              (λ y. a.numbers (sym y ∙ i.0)),
              ap (λ (k : ℕ). of_seat seat_of k now) i.0 ∙ (g.mine ∙ sym i.1),
              ap (λ (k : ℕ). of_seat seat_of k all) i.0 ∙
                  (same_between seat_of w.seen all now l.1 l.2 w.number w.mine g.mine_seen g.mine ∙ sym i.1),
            ))
            (λ i. let e = g.ended n es i in
            (e.0, (b.ended n es i).0, e.2, same_between seat_of w.seen all now l.1 l.2 n es e.3 e.2)) r)
            (ended_cases v w n es h);
      }

  joined_apart : (v w u : View R E) → AreApart v u → AreApart w u → AreApart u w → AreApart u v
      → AreApart (joining v w) u × AreApart u (joining v w)
  joined_apart v w u a b c d = (
    record {
      numbers = a.numbers;
      ended = λ n es h. ⊎_elim (λ i. a.ended n es i)
          (λ r. ⊎_elim (λ i. ((λ y. b.numbers (sym i.0 ∙ y)), λ fs y. (c.ended n fs y).0 i.0)) (λ i. b.ended n es i) r)
          (ended_cases v w n es h);
    },
    record {
      numbers = d.numbers;
      ended = λ n es h. (
        (d.ended n es h).0,
        λ fs y. ⊎_elim (λ i. (d.ended n es h).1 fs i)
            (λ r. ⊎_elim (λ i. (c.ended n es h).0 i.0) (λ i. (c.ended n es h).1 fs i) r) (ended_cases v w n fs y),
      );
    },
  )

module _ {T R E : Type 0} (root_of : T → R) (past_of : T → List E) (seat_of : E → ℕ) where
  abbrev Rules : TurnState T R E → Type 0
  Rules = Kept root_of past_of seat_of

  held_joined : (s : TurnState T R E) (id : ℕ) (v : View R E) (other : ℕ) (w : View R E) (k : Rules s)
      → HasView s.views id v → HasView s.views other w → (other ≡ id → ⊥) → v.holds_turn ≡ false
      → w.holds_turn ≡ false → IsHeld k.now s
      → IsHeld k.now (record { words = s.words; homes = s.homes; views = slice_set (slice_set s.views id (joining v w)) other spent_view })
  held_joined s id v other w k at at_w ids iv iw y =
      let J : View R E = joining v w in let views : List (View R E) = slice_set s.views id J in
      let not_id = not_holder y id v at iv in let not_other = not_holder y other w at_w iw in
      record {
        word = y.word;
        home = y.home;
        by = y.by;
        view = y.view;
        live = y.live;
        holds = y.holds;
        seen = y.seen;
        at = set_else views other y.by spent_view not_other ∙ (set_else s.views id y.by J not_id ∙ y.at);
        only = each_set views other spent_view (λ j u. u.holds_turn ≡ true → j ≡ y.by) (λ h. absurd (false_not_true h))
            (λ j u m e. each_set s.views id J (λ j u. u.holds_turn ≡ true → j ≡ y.by)
            (λ h. absurd (false_not_true (sym iv ∙ h))) (λ j u n e h. y.only j u e h) j u e);
      }

  -- a seat may end in another, where neither has the turn
  pub joins : (id : ℕ) (v : View R E) (other : ℕ) (w : View R E) → v.live ≡ true → w.live ≡ true
      → v.holds_turn ≡ false → w.holds_turn ≡ false → Joins Rules id v other w (joining v w) spent_view
  joins id v other w lv lw iv iw s k at apart_ids at2 =
      let J : View R E = joining v w in let views : List (View R E) = slice_set s.views id J in
      let at_w : HasView s.views other w = sym (set_else s.views id other J apart_ids) ∙ at2 in
      let vw = k.apart id other v w at at_w (λ h. apart_ids (sym h)) lv lw in
      let wv = k.apart other id w v at_w at apart_ids lw lv in
      let from_joined : (j : ℕ) (u : View R E) → j ≢ id → j ≢ other → HasView s.views j u → u.live ≡ true → AreApart J u × AreApart u J = λ j u n m e l.
      joined_apart v w u (k.apart id j v u at e (λ h. n (sym h)) lv l) (k.apart other j w u at_w e (λ h. m (sym h)) lw l)
      (k.apart j other u w e at_w m l lw) (k.apart j id u v e at n l lv) in
      record {
        root = k.root;
        now = k.now;
        made = k.made;
        turn = ⊎_elim (λ y. inl
            (record {
              word = y.word;
              value = y.value;
              home = y.home;
              root_is = y.root_is;
              past_is = y.past_is;
              idle = each_set views other spent_view
                  (λ j u. u.holds_turn ≡ false) refl
                  (λ j u m e. each_set s.views id J (λ j u. u.holds_turn ≡ false) iv (λ j u n e. y.idle j u e) j u e);
            }))
            (λ y. inr (held_joined s id v other w k at at_w apart_ids iv iw y)) k.turn;
        each = each_set views other spent_view (λ j u. u.live ≡ true → Fits seat_of k.root k.now k.made u)
            (λ h. absurd (false_not_true h))
            (λ j u m e. each_set s.views id J (λ j u. u.live ≡ true → Fits seat_of k.root k.now k.made u)
            (λ _. joined_fits v w (k.each id v at lv) (k.each other w at_w lw) vw wv)
            (λ j u n e l. k.each j u e l) j u e);
        apart = λ i j a b p q n la lb. each_set views other spent_view (λ i a. a.live ≡ true → i ≢ j → AreApart a b)
            (λ h. absurd (false_not_true h))
            (λ i a mi p la n. each_set views other spent_view (λ j b. b.live ≡ true → i ≢ j → AreApart a b)
            (λ h. absurd (false_not_true h))
            (λ j b mj q lb n. both_set s.views id J (λ i a j b. i ≢ other → j ≢ other → a.live ≡ true → b.live ≡ true → AreApart a b)
            (λ j b n' e mi mj la lb. (from_joined j b n' mj e lb).0) (λ i a n' e mi mj la lb. (from_joined i a n' mi e la).1)
            (λ i a j b ni nj p q n mi mj la lb. k.apart i j a b p q n la lb) i a j b p q n mi mj la lb) j b q lb n) i a p la n;
        above = k.above;
      }

  abbrev HearsAt : ℕ → ℕ → Me (Option T) (View R E) → Type 0
  HearsAt slots id m = Allows Rules slots id m 0 (λ n. n) (heard seat_of (step slots 0 0 0 none) m)

  -- a live seat with no slot may load the word, and learns what the rule says of its view
  pub hears_at : (slots id : ℕ) (v : View R E) (c : List (ℕ × Option T)) (m : Me (Option T) (View R E)) → m ≡ (v, c)
      → c ≡ [] → v.live ≡ true → HearsAt slots id m
  hears_at slots id v c m is none_held live =
      subst (λ (x : Me (Option T) (View R E)). HearsAt slots id x) (sym (is ∙ ap (λ (xs : List (ℕ × Option T)). (v, xs)) none_held))
      (λ s k len at small. let f = k.each id v at live in
      (v, keeps, tt, stays s id v k (slice_index s.words 0) at (one_word s k), (refl, f.before, f.heard, fits_known v f k.above)))
