-- The holder's stores: one makes entries part of the past, the other gives the turn and the value back.
use Rattle.std.proofs.Common.{◌≡◌, ℕ, ◌+◌, ◌*◌, List, [], ◌∷◌, ◌++◌, length, Option, Some, None, true, false, inl, inr, refl, sym, ◌∙◌, ap, subst, arith}
use Rattle.std.proofs.Common.{slice_set, unwrap_or, All}
use mathlib.Core.Option.{some, none}
use mathlib.Core.Option as O
use Rattle.atomic_table.proofs.Lists.{set_here}
use Rattle.atomic_table.specs.Table.{Me, step, keeps, gives, rest, Allows}
use Rattle.std.proofs.Common.{append-nil, append_assoc}
use Rattle.turn_lock.specs.Pasts.{of_seat}
use Rattle.turn_lock.specs.Rule.{Kept, Fits, AreApart, TurnState}
use Rattle.turn_lock.specs.Steps.{added, gave}
use Rattle.turn_lock.specs.Views.{adding, leaving}
use Rattle.turn_lock.specs.declared.view.View.{View}
use Rattle.turn_lock.proofs.PastLemmas.{of_seat-append, own_grows, others_stay, foreign_entries}
use Rattle.turn_lock.proofs.ViewLemmas.{each_set, apart_set, within, held_by, fits_known, not_true}

module _ {R E : Type 0} (seat_of : E → ℕ) where
  adder_fits : {root : R} {now : List E} {made : ℕ} (v : View R E) (es : List E) → v.seen ≡ now
      → All (λ e. seat_of e ≡ v.number) es → Fits seat_of root now made v
      → Fits seat_of root (now ++ es) made (adding v es)
  adder_fits {root} {now} v es whole own f = record {
    root_is = f.root_is;
    below = f.below;
    first = f.first;
    before = (v.seen ++ es, refl);
    heard = (v.seen ++ es, refl);
    seen = ([], append-nil _ ∙ ap (λ xs. xs ++ es) whole);
    mine = own_grows seat_of v.number now es v.mine own f.mine;
    mine_seen = own_grows seat_of v.number v.seen es v.mine own f.mine_seen;
    ended = λ n ds h. let e = f.ended n ds h in
        (e.0, e.1, others_stay seat_of n v.number now es e.1 own ∙ e.2, others_stay seat_of n v.number v.seen es e.1 own ∙ e.3);
  }

  others_fit : {root : R} {now : List E} {made : ℕ} (v w : View R E) (es : List E)
      → All (λ e. seat_of e ≡ v.number) es → AreApart w v → Fits seat_of root now made w
      → Fits seat_of root (now ++ es) made w
  others_fit {root} {now} v w es own x f = record {
    root_is = f.root_is;
    below = f.below;
    first = f.first;
    mine_seen = f.mine_seen;
    before = f.before;
    heard = f.heard;
    seen = (f.seen.0 ++ es, sym (append_assoc w.seen f.seen.0 es) ∙ ap (λ xs. xs ++ es) f.seen.1);
    mine = others_stay seat_of w.number v.number now es x.numbers own ∙ f.mine;
    ended = λ n ds h. let e = f.ended n ds h in (e.0, e.1, others_stay seat_of n v.number now es (x.ended n ds h).0 own ∙ e.2, e.3);
  }

  leaver_fits : {root : R} {now : List E} {made : ℕ} (v : View R E) → Fits seat_of root now made v
      → Fits seat_of root now made (leaving v)
  leaver_fits v f = record {
    root_is = f.root_is;
    below = f.below;
    first = f.first;
    seen = f.seen;
    before = f.before;
    heard = f.heard;
    mine = f.mine;
    mine_seen = f.mine_seen;
    ended = f.ended;
  }

some_same : {A : Type 0} (a b : A) → ◌≡◌ {A = Option A} (Some a) (Some b) → a ≡ b
some_same {A} a b e = ap (λ (o : Option A). unwrap_or o a) e

module _ {T R E : Type 0} (root_of : T → R) (past_of : T → List E) (seat_of : E → ℕ) where
  abbrev Rules : TurnState T R E → Type 0
  Rules = Kept root_of past_of seat_of

  adds_entries : (id : ℕ) (v : View R E) (c : List (ℕ × Option T)) (es : List E) (new : ℕ) → v.live ≡ true
      → v.holds_turn ≡ true → All (λ e. seat_of e ≡ v.number) es → new ≡ 2 * length (v.seen ++ es) + 1
      → Allows Rules 1 id (v, c) 0 (λ _. new) (λ _. added es (step 1 0 new 0 none) (v, c) new)
  adds_entries id v c es new live holds own word s k len at small =
      let h = held_by s id v k at holds in let x : View R E = adding v es in (
        x,
        keeps,
        tt,
        record {
          root = k.root;
          now = k.now ++ es;
          made = k.made;
          turn = inr (record {
            word = ap (λ (ws : List ℕ). slice_set ws 0 new) h.0 ∙ ap (λ (m : ℕ). m ∷ [])
                (word ∙ ap (λ (xs : List E). 2 * length (xs ++ es) + 1) h.2);
            home = h.1;
            by = id;
            view = x;
            at = set_here s.views id x (within s.views id v at);
            live = live;
            holds = holds;
            seen = ap (λ xs. xs ++ es) h.2;
            only = each_set s.views id x (λ j w. w.holds_turn ≡ true → j ≡ id) (λ _. refl) (λ j w n e t. h.3 j w e t);
          });
          each = each_set s.views id x (λ j w. w.live ≡ true → Fits seat_of k.root (k.now ++ es) k.made w)
              (λ _. adder_fits seat_of v es h.2 own (k.each id v at live))
              (λ j w n e l. others_fit seat_of v w es own (k.apart j id w v e at n l live) (k.each j w e l));
          apart = apart_set s id v x k at live refl refl;
          above = λ n m. of_seat-append seat_of n k.now es ∙
              (ap (λ xs. xs ++ of_seat seat_of n es) (k.above n m) ∙ foreign_entries seat_of n v.number es (λ e. let b =
              (k.each id v at live).below in omega (arith, m, e, b)) own);
        },
        (refl, refl),
      )

  abbrev AddsAt : ℕ → ℕ → View R E → List (ℕ × Option T) → List E → ℕ → Type 0
  AddsAt slots id v c es new = Allows Rules slots id (v, c) 0 (λ _. new) (λ _. added es (step slots 0 new 0 none) (v, c) new)

  -- the holder may add entries of its own, where the new word is that of the longer past
  pub adds_at : (slots id : ℕ) (m : Me (Option T) (View R E)) (es : List E) (new : ℕ) (past : List E) → slots ≡ 1
      → m.0.live ≡ true → m.0.holds_turn ≡ true → All (λ e. seat_of e ≡ m.0.number) es → past ≡ m.0.seen ++ es
      → new ≡ 2 * length past + 1 → AddsAt slots id m.0 m.1 es new
  adds_at slots id m es new past one live holds own grew word =
      subst (λ (k : ℕ). AddsAt k id m.0 m.1 es new) (sym one)
      (adds_entries id m.0 m.1 es new live holds own (word ∙ ap (λ (xs : List E). 2 * length xs + 1) grew))

  gives_back : (id : ℕ) (v : View R E) (t : T) (new : ℕ) → v.live ≡ true → v.holds_turn ≡ true
      → Some (root_of t) ≡ v.root → past_of t ≡ v.seen → new ≡ 2 * length v.seen
      → Allows Rules 1 id (v, (0, Some t) ∷ []) 0 (λ _. new) (λ _. gave seat_of (step 1 0 new 0 none) (v, (0, Some t) ∷ []) new)
  gives_back id v t new live holds r p word s k len at small =
      let h = held_by s id v k at holds in
      let x : View R E = leaving v in let f = k.each id v at live in (
        x,
        gives,
        tt,
        record {
          root = k.root;
          now = k.now;
          made = k.made;
          turn = inl (record {
            word = ap (λ (ws : List ℕ). slice_set ws 0 new) h.0 ∙ ap (λ (m : ℕ). m ∷ [])
                (word ∙ ap (λ (xs : List E). 2 * length xs) h.2);
            value = t;
            home = ap (λ (hs : List (O.Option (Option T))). slice_set hs 0 (some (Some t))) h.1;
            root_is = some_same _ _ (r ∙ f.root_is);
            past_is = p ∙ h.2;
            idle = each_set s.views id x (λ j w. w.holds_turn ≡ false) refl (λ j w n e. not_true w.holds_turn (λ y. n (h.3 j w e y)));
          });
          each = each_set s.views id x (λ j w. w.live ≡ true → Fits seat_of k.root k.now k.made w)
              (λ _. leaver_fits seat_of v f) (λ j w n e l. k.each j w e l);
          apart = apart_set s id v x k at live refl refl;
          above = k.above;
        },
        (refl, fits_known x (leaver_fits seat_of v f) k.above),
      )

  abbrev GivesAt : ℕ → ℕ → Me (Option T) (View R E) → ℕ → Type 0
  GivesAt slots id m new = Allows Rules slots id m 0 (λ _. new) (λ _. gave seat_of (step slots 0 new 0 none) m new)

  -- the holder may give back a value with its root and the past that it has seen, once it is in the slot that was out
  pub gives_at : (slots id : ℕ) (v : View R E) (c : List (ℕ × Option T)) (m : Me (Option T) (View R E)) (t : T)
      (new : ℕ) → slots ≡ 1 → c ≡ (0, None) ∷ [] → m ≡ (v, (0, Some t) ∷ rest c)
      → v.live ≡ true → v.holds_turn ≡ true → Some (root_of t) ≡ v.root → past_of t ≡ v.seen → new ≡ 2 * length (past_of t) → GivesAt slots id m new
  gives_at slots id v c m t new one out is live holds r p word =
      let now_in : m ≡ (v, (0, Some t) ∷ []) = is ∙ ap (λ (xs : List (ℕ × Option T)). (v, (0, Some t) ∷ rest xs)) out in
      subst (λ (k : ℕ). GivesAt k id m new) (sym one)
      (subst (λ (x : Me (Option T) (View R E)). GivesAt 1 id x new) (sym now_in)
      (gives_back id v t new live holds r p (word ∙ ap (λ (xs : List E). 2 * length xs) p)))
