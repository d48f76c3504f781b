-- Lemmas on the views of a table after one of them changes or one more comes.
use Rattle.std.proofs.Common.{◌≡◌, ◌≢◌, ℕ, ◌+◌, ◌*◌, ◌<◌, ◌≤◌, zero, suc, Bool, true, false, List, [], ◌∷◌, ◌++◌, length}
use Rattle.std.proofs.Common.{◌⊎◌, inl, inr, ⊎_elim, refl, sym, ap, ◌∙◌, subst, arith, slice_set, slice_index, Contains}
use mathlib.Core.Option.{none, some-injective, some-ne-none}
use lib.ListN.{get_elem?}
use Rattle.atomic_table.proofs.Lists.{at_set, set_again}
use Rattle.atomic_table.specs.Table.{stepped, keeps}
use Rattle.turn_lock.specs.Rule.{Kept, Fits, AreApart, IsHeld, HasView, TurnState}
use Rattle.turn_lock.specs.Pasts.{of_seat}
use Rattle.turn_lock.specs.Views.{ViewKnows}
use Rattle.turn_lock.specs.declared.view.View.{View}
use Rattle.turn_lock.proofs.PastLemmas.{none_before}

pub false_not_true : false ≡ true → ⊥
false_not_true e = cc

pub not_true : (b : Bool) → (b ≡ true → ⊥) → b ≡ false
not_true true h = absurd (h refl)
not_true false h = refl

module _ {R E : Type 0} where
  -- after one view changes: the new one, or one of the others
  pub each_set : (views : List (View R E)) (id : ℕ) (x : View R E) (P : ℕ → View R E → Type 0) → P id x
      → ((k : ℕ) (v : View R E) → k ≢ id → HasView views k v → P k v) → (k : ℕ) (v : View R E)
      → HasView (slice_set views id x) k v → P k v
  each_set views id x P here there k v e = ⊎_elim
      (λ t. subst (λ (y : View R E). P k y) t.1 (subst (λ (j : ℕ). P j x) (sym t.0) here)) (λ t. there k v t.0 t.1)
      (at_set views id k x v e)

  -- the same, of two views
  pub both_set : (views : List (View R E)) (id : ℕ) (x : View R E) (P : ℕ → View R E → ℕ → View R E → Type 0)
      → ((j : ℕ) (b : View R E) → j ≢ id → HasView views j b → P id x j b)
      → ((i : ℕ) (a : View R E) → i ≢ id → HasView views i a → P i a id x)
      → ((i : ℕ) (a : View R E) (j : ℕ) (b : View R E) → i ≢ id → j ≢ id → HasView views i a → HasView views j b → i ≢ j → P i a j b)
      → (i : ℕ) (a : View R E) (j : ℕ) (b : View R E) → HasView (slice_set views id x) i a → HasView (slice_set views id x) j b → i ≢ j → P i a j b
  both_set views id x P first second neither i a j b p q n = each_set views id x
      (λ i a. (j : ℕ) (b : View R E) → HasView (slice_set views id x) j b → i ≢ j → P i a j b)
      (λ j b q n. each_set views id x (λ j b. id ≢ j → P id x j b) (λ n. absurd (n refl)) (λ j b m e n. first j b m e) j b q n)
      (λ i a m p j b q n. each_set views id x (λ j b. i ≢ j → P i a j b) (λ n. second i a m p)
      (λ j b l e n. neither i a j b m l p e n) j b q n) i a p j b q n

  at_more : (l : List (View R E)) (a b : View R E) (j : ℕ) → HasView (l ++ a ∷ []) j b
      → (HasView l j b) ⊎ ((j ≡ length l) × (a ≡ b))
  at_more [] a b zero e = inr (refl, some-injective a b e)
  at_more [] a b (suc j) e = absurd (some-ne-none b (sym e))
  at_more (x ∷ xs) a b zero e = inl e
  at_more (x ∷ xs) a b (suc j) e = ⊎_elim (λ h. inl h) (λ h. inr (ap suc h.0, h.1)) (at_more xs a b j e)

  -- after one more view comes: the new one, or one of the others
  pub each_more : (views : List (View R E)) (x : View R E) (P : ℕ → View R E → Type 0) → P (length views) x
      → ((k : ℕ) (v : View R E) → HasView views k v → P k v) → (k : ℕ) (v : View R E)
      → HasView (views ++ x ∷ []) k v → P k v
  each_more views x P here there k v e = ⊎_elim (λ h. there k v h)
      (λ h. subst (λ (y : View R E). P k y) h.1 (subst (λ (j : ℕ). P j x) (sym h.0) here)) (at_more views x v k e)

  -- a place that has a view is among the places
  pub within : (views : List (View R E)) (i : ℕ) (a : View R E) → HasView views i a → i < length views
  within [] i a e = absurd (some-ne-none a (sym e))
  within (x ∷ xs) zero a e = omega arith
  within (x ∷ xs) (suc i) a e = omega (arith, within xs i a e)

  -- one place has one view
  pub same_view : (views : List (View R E)) (i j : ℕ) (a b : View R E) → HasView views i a → HasView views j b → j ≡ i
      → a ≡ b
  same_view views i j a b e f h = some-injective a b (sym e ∙ (ap (get_elem? views) (sym h) ∙ f))

  -- where a view does not hold the turn, its place is not the holder's
  pub not_holder : {T : Type 0} {now : List E} {s : TurnState T R E} (y : IsHeld now s) (id : ℕ) (v : View R E)
      → HasView s.views id v → v.holds_turn ≡ false → y.by ≢ id
  not_holder {s = s} y id v at idle h =
      let same : v ≡ y.view = same_view s.views id y.by v y.view at y.at h in
      false_not_true (sym idle ∙ (ap (λ (w : View R E). w.holds_turn) same ∙ y.holds))

  -- only the number and the ended seats of a view tell whether it is apart from another
  apart_left : (v x b : View R E) → v.number ≡ x.number → v.ended ≡ x.ended → AreApart v b → AreApart x b
  apart_left v x b n e a = record {
    numbers = λ h. a.numbers (n ∙ h);
    ended = λ m es h. a.ended m es (subst (λ xs. Contains xs (m, es)) (sym e) h);
  }

  apart_right : (a v x : View R E) → v.number ≡ x.number → v.ended ≡ x.ended → AreApart a v → AreApart a x
  apart_right a v x n e p = record {
    numbers = λ h. p.numbers (h ∙ sym n);
    ended = λ m es h. let q = p.ended m es h in
        ((λ y. q.0 (y ∙ sym n)), λ fs y. q.1 fs (subst (λ xs. Contains xs (m, fs)) (sym e) y));
  }

module _ {T R E : Type 0} {root_of : T → R} {past_of : T → List E} {seat_of : E → ℕ} where
  -- a change of one view that keeps its number and its ended seats keeps the views apart
  pub apart_set : (s : TurnState T R E) (id : ℕ) (v x : View R E) (k : Kept root_of past_of seat_of s)
      → HasView s.views id v → v.live ≡ true → x.number ≡ v.number → x.ended ≡ v.ended
      → (i j : ℕ) (a b : View R E) → HasView (slice_set s.views id x) i a → HasView (slice_set s.views id x) j b → i ≢ j → a.live ≡ true → b.live ≡ true → AreApart a b
  apart_set s id v x k at live num end i j a b p q n la lb =
      both_set s.views id x (λ i a j b. i ≢ j → a.live ≡ true → b.live ≡ true → AreApart a b)
      (λ j b m e n la lb. apart_left v x b (sym num) (sym end) (k.apart id j v b at e n live lb))
      (λ i a m p n la lb. apart_right a v x (sym num) (sym end) (k.apart i id a v p at n la live))
      (λ i a j b m l p e n' n la lb. k.apart i j a b p e n la lb)
      i a j b p q n n la lb

  -- where a view holds the turn, the turn is held, and by no other view
  pub held_by : (s : TurnState T R E) (id : ℕ) (v : View R E) (k : Kept root_of past_of seat_of s)
      → HasView s.views id v → v.holds_turn ≡ true
      → (s.words ≡ (2 * length k.now + 1) ∷ []) × (s.homes ≡ none ∷ []) × (v.seen ≡ k.now) × ((j : ℕ) (w : View R E) → HasView s.views j w → w.holds_turn ≡ true → j ≡ id)
  held_by s id v k at holds = ⊎_elim (λ f. absurd (false_not_true (sym (f.idle id v at) ∙ holds))) (λ h.
      let here : id ≡ h.by = h.only id v at holds in
      let same : h.view ≡ v = same_view s.views h.by id h.view v h.at at here in
      (h.word, h.home, ap (λ (w : View R E). w.seen) (sym same) ∙ h.seen, λ j w e t. h.only j w e t ∙ sym here)) k.turn

  -- a table whose word and views are what they were keeps the rule
  pub stays : (s : TurnState T R E) (id : ℕ) (v : View R E) (k : Kept root_of past_of seat_of s) (n : ℕ)
      → HasView s.views id v → s.words ≡ n ∷ [] → Kept root_of past_of seat_of (stepped s 0 n id [] v keeps)
  stays s id v k n at w =
      subst (λ (ws : List ℕ). Kept root_of past_of seat_of (record { words = ws; homes = s.homes; views = slice_set s.views id v }))
      (w ∙ ap (λ (ws : List ℕ). slice_set ws 0 n) (sym w))
      (subst (λ (vs : List (View R E)). Kept root_of past_of seat_of (record { words = s.words; homes = s.homes; views = vs }))
      (sym (set_again s.views id v at)) k)

  -- the table has one word
  pub one_word : (s : TurnState T R E) (k : Kept root_of past_of seat_of s) → s.words ≡ slice_index s.words 0 ∷ []
  one_word s k = ⊎_elim (λ f. f.word ∙ ap (λ (ws : List ℕ). slice_index ws 0 ∷ []) (sym f.word))
      (λ h. h.word ∙ ap (λ (ws : List ℕ). slice_index ws 0 ∷ []) (sym h.word)) k.turn

-- what a view that fits the rule knows of what it has seen
pub fits_known : {R E : Type 0} {seat_of : E → ℕ} {root : R} {now : List E} {made : ℕ} (v : View R E)
    → Fits seat_of root now made v → ((n : ℕ) → made ≤ n → of_seat seat_of n now ≡ []) → ViewKnows seat_of v
fits_known {seat_of = seat_of} {now = now} v f above = record {
  mine = f.mine_seen;
  ended = λ n es h. let e = f.ended n es h in (e.1, e.3);
  first = λ z. let b = f.below in let c = f.first z in omega (arith, b, c);
  above = λ z n h. none_before seat_of n v.seen now f.seen (above n (let c = f.first z in omega (arith, c, h)));
}
