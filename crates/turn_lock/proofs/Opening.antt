-- The table as it is made keeps the rule.
use Rattle.std.proofs.Common.{◌≡◌, ℕ, zero, suc, false, List, [], ◌∷◌, Some, inl, refl, sym, ◌∙◌, subst, arith, Contains}
use mathlib.Core.Option.{some-injective, some-ne-none}
use Rattle.atomic_table.specs.Table.{opening}
use Rattle.turn_lock.specs.Rule.{Kept, Fits, HasView}
use Rattle.turn_lock.specs.Views.{opening_view}
use Rattle.turn_lock.specs.declared.view.View.{View}

module _ {R E : Type 0} where
  only_view : (o : View R E) (k : ℕ) (v : View R E) → HasView (o ∷ []) k v → (P : View R E → Type 0) → P o → P v
  only_view o zero v e P p = subst P (some-injective _ _ e) p
  only_view o (suc k) v e P p = absurd (some-ne-none v (sym e))

  first_place : (o : View R E) (k : ℕ) (v : View R E) → HasView (o ∷ []) k v → k ≡ 0
  first_place o zero v e = refl
  first_place o (suc k) v e = absurd (some-ne-none v (sym e))

no_member : {A : Type 0} (x : A) → Contains [] x → ⊥
no_member x h = omega (arith, h.1)

-- the table that `new` makes, of a value with no past
pub opens : {T R E : Type 0} (root_of : T → R) (past_of : T → List E) (seat_of : E → ℕ) (value : T)
    → past_of value ≡ []
    → Kept root_of past_of seat_of (opening (0 ∷ []) (Some value ∷ []) (opening_view (root_of value)))
opens {T} {R} {E} root_of past_of seat_of value empty = let o : View R E = opening_view (root_of value) in record {
  root = root_of value;
  now = [];
  made = 1;
  turn = inl (record {
    word = refl;
    value = value;
    home = refl;
    root_is = refl;
    past_is = empty;
    idle = λ k v e. only_view o k v e
        (λ u. u.holds_turn ≡ false) refl;
  });
  each = λ k v e l. only_view o k v e (λ u. Fits seat_of (root_of value) [] 1 u) (record {
    root_is = refl;
    below = omega arith;
    first = λ _. refl;
    seen = ([], refl);
    before = ([], refl);
    heard = ([], refl);
    mine = refl;
    mine_seen = refl;
    ended = λ n es h. absurd (no_member (n, es) h);
  });
  apart = λ j k v w p q n _ _. absurd (n (first_place o j v p ∙ sym (first_place o k w q)));
  above = λ n h. refl;
}
