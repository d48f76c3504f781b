-- A compare_exchange from an even word takes the turn where it is free, and else changes nothing.
use Rattle.std.proofs.Common.{◌≡◌, ◌≢◌, ℕ, ◌+◌, ◌*◌, ◌/◌, ◌%◌, ◌≤◌, eqb, List, [], ◌∷◌, length, Option, Some, true, inr, ⊎_elim, refl, sym, ◌∙◌, ap, subst, arith}
use Rattle.std.proofs.Common.{slice_set, slice_index, eq-eqb, ne_eqb}
use mathlib.Core.Logic.{dite}
use native.Mathlib.Decide.{ℕ_discrete}
use mathlib.Core.Option.{some, none}
use mathlib.Core.Option as O
use mathlib.Core.List.{IsPrefix}
use lib.ListN.{get_elem?}
use prog.Atomic.{either}
use Rattle.atomic_table.proofs.Lists.{set_here}
use Rattle.atomic_table.specs.Table.{Me, step, Act, keeps, takes, Allows, stepped, carried_after, Valid}
use Rattle.turn_lock.specs.Pasts.{of_seat}
use Rattle.turn_lock.specs.Rule.{Kept, Fits, IsFree, IsHeld, HasView, TurnState}
use Rattle.turn_lock.specs.Steps.{Enters, tried}
use Rattle.turn_lock.specs.Views.{holding}
use Rattle.turn_lock.specs.declared.view.View.{View}
use Rattle.turn_lock.proofs.PastLemmas.{begins_itself}
use Rattle.turn_lock.proofs.ViewLemmas.{each_set, apart_set, within, stays, fits_known, false_not_true}

-- an even number is twice another
half_of : (n : ℕ) → n % 2 ≡ 0 → (half : ℕ) × (n ≡ 2 * half)
half_of n even = (n / 2, omega (arith, even))

module _ {T R E : Type 0} (root_of : T → R) (past_of : T → List E) (seat_of : E → ℕ) where
  abbrev Rules : TurnState T R E → Type 0
  Rules = Kept root_of past_of seat_of

  -- what the seat may do next at a compare_exchange that finds n
  abbrev Goes : TurnState T R E → ℕ → View R E → ℕ → ℕ → Type 0
  Goes s id v w n = (x : View R E) × (a : Act (Option T)) × Valid s.homes [] a × Rules
      (stepped s 0 (either (eqb n w) (w + 1) n) id [] x a)
      × tried root_of past_of seat_of (step 1 0 w (w + 1) none) (v, []) n (x, carried_after [] a)

  holder_fits : {root : R} {now : List E} {made : ℕ} (v : View R E) → Fits seat_of root now made v
      → Fits seat_of root now made (holding v now)
  holder_fits {root} {now} v f = record {
    root_is = f.root_is;
    below = f.below;
    first = f.first;
    seen = begins_itself now;
    before = (now, refl);
    heard = (now, refl);
    mine = f.mine;
    mine_seen = f.mine;
    ended = λ n es h. let e = f.ended n es h in (e.0, e.1, e.2, e.2);
  }

  -- the rule after the turn was taken
  won : (s : TurnState T R E) (id : ℕ) (v : View R E) (k : Rules s) → HasView s.views id v → v.live ≡ true
      → (f : IsFree root_of past_of k.root k.now s)
      → Rules (stepped s 0 (2 * length k.now + 1) id [] (holding v k.now) (takes 0 (Some f.value)))
  won s id v k at live f = let x : View R E = holding v k.now in record {
    root = k.root;
    now = k.now;
    made = k.made;
    turn = inr (record {
      word = ap (λ (ws : List ℕ). slice_set ws 0 (2 * length k.now + 1)) f.word;
      home = ap (λ (hs : List (O.Option (Option T))). slice_set hs 0 none) f.home;
      by = id;
      view = x;
      at = set_here s.views id x (within s.views id v at);
      live = live;
      holds = refl;
      seen = refl;
      only = each_set s.views id x (λ j w. w.holds_turn ≡ true → j ≡ id) (λ _. refl)
          (λ j w n e h. absurd (false_not_true (sym (f.idle j w e) ∙ h)));
    });
    each = each_set s.views id x (λ j w. w.live ≡ true → Fits seat_of k.root k.now k.made w)
        (λ _. holder_fits v (k.each id v at live)) (λ j w n e l. k.each j w e l);
    apart = apart_set s id v x k at live refl refl;
    above = k.above;
  }

  misses : (s : TurnState T R E) (id : ℕ) (v : View R E) (c : ℕ) (k : Rules s) (n : ℕ) → HasView s.views id v
      → s.words ≡ n ∷ [] → n ≢ 2 * c → Goes s id v (2 * c) n
  misses s id v c k n at w ne = (
    v,
    keeps,
    tt,
    subst (λ b. Rules (stepped s 0 (either b (2 * c + 1) n) id [] v keeps)) (sym (ne_eqb n (2 * c) ne))
        (stays s id v k n at w),
    (λ h. absurd (ne h), λ _. refl),
  )

  entered : (root : R) (now : List E) (made : ℕ) (v : View R E) (t : T) → root_of t ≡ root → past_of t ≡ now
      → Fits seat_of root now made v → ((n : ℕ) → made ≤ n → of_seat seat_of n now ≡ [])
      → Enters root_of past_of seat_of v t (holding v now)
  entered root now made v t r p f above = record {
    view = ap (holding v) (sym p);
    root_is = ap Some r ∙ sym f.root_is;
    later = subst (λ (es : List E). IsPrefix v.seen es) (sym p) f.seen;
    knows = fits_known (holding v now) (holder_fits v f) above;
  }

  takes_free : (s : TurnState T R E) (id : ℕ) (v : View R E) (c : ℕ) (k : Rules s) → HasView s.views id v
      → v.live ≡ true → IsFree root_of past_of k.root k.now s → slice_index s.words 0 ≡ 2 * c → Goes s id v (2 * c)
      (slice_index s.words 0)
  takes_free s id v c k at live f h =
      let n : ℕ = slice_index s.words 0 in
      let e : n ≡ 2 * length k.now = ap (λ (ws : List ℕ). slice_index ws 0) f.word in
      let x : View R E = holding v k.now in let a : Act (Option T) = takes 0 (Some f.value) in (
        x,
        a,
        ap (λ (hs : List (O.Option (Option T))). get_elem? hs 0) f.home,
        subst (λ b. Rules (stepped s 0 (either b (2 * c + 1) n) id [] x a)) (sym (eq-eqb n (2 * c) h))
            (subst (λ (m : ℕ). Rules (stepped s 0 (m + 1) id [] x a)) (sym e ∙ h) (won s id v k at live f)),
        (
          λ _. (f.value, refl, entered k.root k.now k.made v f.value f.root_is f.past_is (k.each id v at live) k.above),
          λ ne. absurd
              (ne h),
        ),
      )

  at_free : (s : TurnState T R E) (id : ℕ) (v : View R E) (c : ℕ) (k : Rules s) → HasView s.views id v → v.live ≡ true
      → IsFree root_of past_of k.root k.now s → Goes s id v (2 * c) (slice_index s.words 0)
  at_free s id v c k at live f =
      let n : ℕ = slice_index s.words 0 in
      let e : n ≡ 2 * length k.now = ap (λ (ws : List ℕ). slice_index ws 0) f.word in
      dite (ℕ_discrete n (2 * c)) (λ h. takes_free s id v c k at live f h)
      (λ ne. misses s id v c k n at (f.word ∙ ap (λ (m : ℕ). m ∷ []) (sym e)) ne)

  at_held : (s : TurnState T R E) (id : ℕ) (v : View R E) (c : ℕ) (k : Rules s) → HasView s.views id v
      → IsHeld k.now s → Goes s id v (2 * c) (slice_index s.words 0)
  at_held s id v c k at h =
      let n : ℕ = slice_index s.words 0 in
      let e : n ≡ 2 * length k.now + 1 = ap (λ (ws : List ℕ). slice_index ws 0) h.word in
      misses s id v c k n at (h.word ∙ ap (λ (m : ℕ). m ∷ []) (sym e)) (λ same. omega (arith, same, e))

  takes_turn : (id : ℕ) (v : View R E) (c : ℕ) → v.live ≡ true
      → Allows Rules 1 id (v, []) 0 (λ n. either (eqb n (2 * c)) (2 * c + 1) n) (tried root_of past_of seat_of (step 1 0 (2 * c) (2 * c + 1) none) (v, []))
  takes_turn id v c live s k len at small = ⊎_elim (at_free s id v c k at live) (at_held s id v c k at) k.turn

  abbrev TakesAt : ℕ → ℕ → View R E → List (ℕ × Option T) → ℕ → Type 0
  TakesAt slots id v c w = Allows Rules slots id (v, c) 0 (λ n. either (eqb n w) (w + 1) n)
      (tried root_of past_of seat_of (step slots 0 w (w + 1) none) (v, c))

  -- a live seat with no slot may try from any even word
  pub takes_at : (slots id : ℕ) (m : Me (Option T) (View R E)) (w : ℕ) → slots ≡ 1 → m.1 ≡ [] → m.0.live ≡ true
      → w % 2 ≡ 0 → TakesAt slots id m.0 m.1 w
  takes_at slots id m w one none_held live even =
      let half = half_of w even in
      subst (λ (k : ℕ). TakesAt k id m.0 m.1 w) (sym one)
      (subst (λ (c : List (ℕ × Option T)). TakesAt 1 id m.0 c w) (sym none_held)
      (subst (λ (k : ℕ). TakesAt 1 id m.0 [] k) (sym half.1) (takes_turn id m.0 half.0 live)))
