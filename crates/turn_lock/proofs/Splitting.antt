-- Making one more seat keeps the rule.
use Rattle.std.proofs.Common.{◌≡◌, ◌≢◌, ℕ, ◌+◌, ◌<◌, ◌≤◌, List, [], ◌∷◌, ◌++◌, length, true, false, inl, inr, ⊎_elim, refl, sym, ◌∙◌, ap, arith, subst}
use Rattle.std.proofs.Common.{slice_set, Contains}
use Rattle.atomic_table.proofs.Lists.{set_else, at_longer}
use Rattle.atomic_table.specs.Table.{Me, Splits}
use Rattle.turn_lock.specs.Rule.{Kept, Fits, AreApart, IsHeld, HasView, TurnState}
use Rattle.turn_lock.specs.Views.{splitting, split_off, IsResting, ViewKnows}
use Rattle.turn_lock.specs.declared.view.View.{View}
use Rattle.turn_lock.proofs.PastLemmas.{none_before}
use Rattle.turn_lock.proofs.ViewLemmas.{each_set, each_more, apart_set, not_holder, false_not_true}

pub no_member : {A : Type 0} (x : A) → Contains [] x → ⊥
no_member x h = omega (arith, h.1)

fewer : (m n : ℕ) → m + 1 ≤ n → m ≤ n
fewer m n h = omega (arith, h)

module _ {R E : Type 0} {seat_of : E → ℕ} where
  -- seat 0 stays as it is when one more seat is made, but for the number of seats made
  pub maker_rests : {S : Type 0} {number made : ℕ} (old new : Me S (View R E)) → new ≡ (splitting old.0, old.1)
      → old.0.number ≡ 0 → IsResting seat_of number made old → IsResting seat_of number (made + 1) new
  maker_rests {S} {number} {made} old new is zero_is r =
      subst (λ (x : Me S (View R E)). IsResting seat_of number (made + 1) x) (sym is) (record {
        slots = r.slots;
        live = r.live;
        idle = r.idle;
        numbered = r.numbered;
        counted = ap (λ n. n + 1) r.counted;
        knows = record {
          mine = r.knows.mine;
          ended = r.knows.ended;
          first = λ z. omega arith;
          above = λ z n h. r.knows.above z n
              (fewer old.0.made n h);
        };
      })

  -- and the seat that is made has seen none of its own lines, and none of ended ones
  pub made_knows : (v : View R E) → v.number ≡ 0 → ViewKnows seat_of v → ViewKnows seat_of (split_off v)
  made_knows v zero_is k = record {
    mine = k.above zero_is v.made (omega arith);
    ended = λ n es h. absurd (no_member (n, es) h);
    first = λ z. let some : 0 < v.made = k.first zero_is in absurd (omega (arith, some, z));
    above = λ z n h. let some : 0 < v.made = k.first zero_is in absurd (omega (arith, some, z));
  }

  -- a view other than seat 0's fits as well where one more seat is made
  still_fits : {root : R} {now : List E} {made : ℕ} (w : View R E) → w.number ≢ 0 → Fits seat_of root now made w
      → Fits seat_of root now (made + 1) w
  still_fits w ne f = record {
    root_is = f.root_is;
    below = omega (arith, f.below);
    first = λ z. absurd (ne z);
    seen = f.seen;
    before = f.before;
    heard = f.heard;
    mine = f.mine;
    mine_seen = f.mine_seen;
    ended = λ n es h. let e = f.ended n es h in (omega (arith, e.0), e.1, e.2, e.3);
  }

  maker_fits : {root : R} {now : List E} {made : ℕ} (v : View R E) → v.made ≡ made → Fits seat_of root now made v
      → Fits seat_of root now (made + 1) (splitting v)
  maker_fits v made_is f = record {
    root_is = f.root_is;
    below = let b = f.below in omega (arith, b);
    first = λ z. ap (λ m. m + 1) made_is;
    seen = f.seen;
    before = f.before;
    heard = f.heard;
    mine = f.mine;
    mine_seen = f.mine_seen;
    ended = λ n es h. let e = f.ended n es h in (let b = e.0 in omega (arith, b), e.1, e.2, e.3);
  }

module _ {R E : Type 0} where
  new_apart : (made : ℕ) (v w : View R E) → v.made ≡ made → w.number < made
      → ((n : ℕ) (es : List E) → Contains w.ended (n, es) → n < made)
      → AreApart w (split_off v) × AreApart (split_off v) w
  new_apart made v w e b below = (
    record {
      numbers = λ h. omega (arith, h, e, b);
      ended = λ n es h.
          ((λ y. let c = below n es h in omega (arith, y, e, c)), λ fs y. no_member (n, fs) y);
    },
    record { numbers = λ h. omega (arith, h, e, b); ended = λ n es h. absurd (no_member (n, es) h) },
  )

module _ {T R E : Type 0} (root_of : T → R) (past_of : T → List E) (seat_of : E → ℕ) where
  abbrev Rules : TurnState T R E → Type 0
  Rules = Kept root_of past_of seat_of

  still_held : (s : TurnState T R E) (id : ℕ) (v : View R E) (k : Rules s) → HasView s.views id v
      → v.holds_turn ≡ false → IsHeld k.now s
      → IsHeld k.now (record { words = s.words; homes = s.homes; views = slice_set s.views id (splitting v) ++ split_off v ∷ [] })
  still_held s id v k at idle y =
      let apart = not_holder y id v at idle in
      let views : List (View R E) = slice_set s.views id (splitting v) in
      record {
        word = y.word;
        home = y.home;
        by = y.by;
        view = y.view;
        live = y.live;
        holds = y.holds;
        seen = y.seen;
        at = at_longer views (split_off v ∷ []) y.by y.view (set_else s.views id y.by (splitting v) apart ∙ y.at);
        only = each_more views (split_off v) (λ j w. w.holds_turn ≡ true → j ≡ y.by) (λ h. absurd (false_not_true h))
            (each_set s.views id (splitting v) (λ j w. w.holds_turn ≡ true → j ≡ y.by)
            (λ h. absurd (false_not_true (sym idle ∙ h))) (λ j w n e h. y.only j w e h));
      }

  -- seat 0 may make one more seat
  pub splits : (id : ℕ) (v : View R E) → v.number ≡ 0 → v.live ≡ true → v.holds_turn ≡ false
      → Splits Rules id v (splitting v) (split_off v)
  splits id v zero_is live idle s k at =
      let f = k.each id v at live in
      let L : View R E = splitting v in let N : View R E = split_off v in let views : List (View R E) = slice_set s.views id L in
      let made_is : v.made ≡ k.made = f.first zero_is in
      let next : Fits seat_of k.root k.now (k.made + 1) N = record {
        root_is = f.root_is;
        below = omega (arith, made_is);
        seen = f.seen;
        mine = k.above v.made (omega (arith, made_is));
        first = λ z. absurd (let b = f.below in omega (arith, z, made_is, b));
        mine_seen = none_before seat_of v.made v.seen k.now f.seen (k.above v.made (omega (arith, made_is)));
        before = (v.seen, refl);
        heard = (v.seen, refl);
        ended = λ n es h. absurd (no_member (n, es) h);
      } in
      let other : (j : ℕ) (w : View R E) → j ≢ id → HasView s.views j w → w.live ≡ true → Fits seat_of k.root k.now (k.made + 1) w = λ j w n e l. still_fits w
      (λ z. (k.apart j id w v e at n l live).numbers (z ∙ sym zero_is)) (k.each j w e l) in
      let old_apart = apart_set s id v L k at live refl refl in
      let from_new : (j : ℕ) (w : View R E) → HasView views j w → w.live ≡ true → AreApart w N × AreApart N w = each_set s.views id L
      (λ j w. w.live ≡ true → AreApart w N × AreApart N w)
      (λ _. new_apart k.made v L made_is f.below (λ n es h. (f.ended n es h).0))
      (λ j w n e l. let g = k.each j w e l in new_apart k.made v w made_is g.below (λ n es h. (g.ended n es h).0)) in
      record {
        root = k.root;
        now = k.now;
        made = k.made + 1;
        turn = ⊎_elim (λ y. inl (record { word = y.word; value = y.value; home = y.home; root_is = y.root_is; past_is = y.past_is; idle = each_more views N (λ j w. w.holds_turn ≡ false) refl (each_set s.views id L (λ j w. w.holds_turn ≡ false) idle (λ j w n e. y.idle j w e)) }))
            (λ y. inr (still_held s id v k at idle y)) k.turn;
        each = each_more views N (λ j w. w.live ≡ true → Fits seat_of k.root k.now (k.made + 1) w) (λ _. next)
            (each_set s.views id L (λ j w. w.live ≡ true → Fits seat_of k.root k.now (k.made + 1) w)
            (λ _. maker_fits v made_is f) other);
        apart = λ i j a b p q n la lb. each_more views N
            (λ i a. (j : ℕ) (b : View R E) → HasView
            (views ++ N ∷ []) j b → i ≢ j → a.live ≡ true → b.live ≡ true → AreApart a b)
            (λ j b q n la lb. each_more views N (λ j b. length views ≢ j → b.live ≡ true → AreApart N b)
            (λ n l. absurd (n refl)) (λ j b e n lb. (from_new j b e lb).1) j b q n lb)
            (λ i a p j b q n la lb. each_more views N (λ j b. i ≢ j → b.live ≡ true → AreApart a b)
            (λ n l. (from_new i a p la).0) (λ j b e n lb. old_apart i j a b p e n la lb) j b q n lb)
            i a p j b q n la lb;
        above = λ n m. k.above n (fewer k.made n m);
      }
