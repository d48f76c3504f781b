-- Lanes that are joined.
use Rattle.std.proofs.Common.{◌≡◌, ◌∙◌, ℕ, ◌+◌, ◌≤◌, ◌<◌, ℤ, pos, ◌+ℤ◌, ◌-ℤ◌, ◌*ℤ◌, neg_ℤ, nat_abs, Bool, true, false, refl, sym, ap, subst, arith, if◌then◌else◌, List, length, get_or, All}
use Rattle.std.specs.Prelude.{◌&&◌}
use Rattle.sky_row.specs.Columns.{no_row}
use Rattle.table_rules.specs.Objects.{Obj, IsRow}
use Rattle.value_rules.specs.Terms.{Term, Minus, Plus, Less, Times}
use Rattle.value_rules.specs.Widths.{most, width_at}
use Rattle.column_vectors.specs.declared.lane.Lane.{Lane}
use Rattle.column_vectors.specs.Lanes.{AreLanesJoined, CanJoin, IsLane, IsSigned, IsSmall, numbers_of, with_sign}
use Rattle.column_vectors.specs.Totals.{number_on, is_known}
use Rattle.column_vectors.proofs.Totals.{known_both, known_minus, number_size}

-- an operation that makes a third term of two
pub record Makes (op : ℤ → ℤ → ℤ) (t u w : Term) : Type 0 where
  pub number : (o : Obj) → number_on o w ≡ op (number_on o t) (number_on o u)
  pub known : (o : Obj) → is_known o w ≡ (is_known o t && is_known o u)

-- a term with one more, added or taken away
abbrev pub with_term : Bool → Term → Term → Term
with_term minus t u = if minus then Less t u else Plus t u

pub makes_sum : (minus : Bool) (t u : Term) → Makes (with_sign minus) t u (with_term minus t u)
makes_sum true t u = record { number = λ o. refl; known = λ o. known_both (λ a b. a -ℤ b) _ _ }
makes_sum false t u = record { number = λ o. refl; known = λ o. known_both (λ a b. a +ℤ b) _ _ }

pub makes_product : (t u : Term) → Makes (λ a b. a *ℤ b) t u (Times t u)
makes_product t u = record { number = λ o. refl; known = λ o. known_both (λ a b. a *ℤ b) _ _ }

pub sum_width : (minus : Bool) (t u : Term) → width_at (with_term minus t u) ≡ width_at t + width_at u
sum_width true t u = refl
sum_width false t u = refl

-- what comes out at a place is the number of the third term
joined_number : (op : ℤ → ℤ → ℤ) (t u w : Term) (rows : List Obj) (a b : Lane) (k : ℕ) → Makes op t u w → IsLane rows t a → IsLane rows u b
    → k < length rows
    → op (get_or (numbers_of a.numbers) k (pos 0)) (get_or (numbers_of b.numbers) k (pos 0)) ≡ number_on (get_or rows k no_row) w
joined_number op t u w rows a b k makes left right low =
    ap (λ x. op x (get_or (numbers_of b.numbers) k (pos 0))) (left.numbers k low)
    ∙ (ap (op (number_on (get_or rows k no_row) t)) (right.numbers k low) ∙ sym (makes.number (get_or rows k no_row)))

-- two lanes can be joined where the third term is not too wide
pub lanes_can : (op : ℤ → ℤ → ℤ) (t u w : Term) (bound : ℕ) (rows : List Obj) (a b : Lane) → Makes op t u w → All IsRow rows
    → IsLane rows t a → IsLane rows u b → bound ≡ width_at w → width_at w ≤ most
    → CanJoin op bound (numbers_of a.numbers) (numbers_of b.numbers)
lanes_can op t u w bound rows a b makes are left right is few = record {
  count = right.count ∙ sym left.count;
  few = subst (λ n. n ≤ most) (sym is) few;
  fits = λ k low.
      let there : k < length rows = omega (arith, low, left.count) in
      let size = number_size (get_or rows k no_row) (are k no_row there) w in
      subst (λ z. nat_abs z ≤ bound) (sym (joined_number op t u w rows a b k makes left right there))
      (subst (λ n. nat_abs (number_on (get_or rows k no_row) w) ≤ n) (sym is) size);
}

-- and then they are the lane of that term
pub lanes_are : (op : ℤ → ℤ → ℤ) (t u w : Term) (bound : ℕ) (rows : List Obj) (a b c : Lane) → Makes op t u w
    → IsLane rows t a → IsLane rows u b → bound ≡ width_at w → AreLanesJoined op bound a b c → IsLane rows w c
lanes_are op t u w bound rows a b c makes left right is h = record {
  bound = h.bound ∙ is;
  count = h.numbers.count ∙ left.count;
  masked = h.known.len ∙ left.masked;
  numbers = λ k low. h.numbers.each k (omega (arith, low, left.count)) ∙ joined_number op t u w rows a b k makes left right low;
  known = λ k low.
      h.known.each k (omega (arith, low, left.masked))
      ∙ (ap (λ x. x && get_or b.known.items k false) (left.known k low)
      ∙ (ap (λ x. is_known (get_or rows k no_row) t && x) (right.known k low) ∙ sym (makes.known (get_or rows k no_row))));
}

-- the lane of a term is small where the term is not too wide
pub lane_small : (t : Term) (rows : List Obj) (a : Lane) → All IsRow rows → IsLane rows t a → width_at t ≤ most → IsSmall a
lane_small t rows a are h few = record {
  masked = h.masked ∙ sym h.count;
  few = subst (λ n. n ≤ most) (sym h.bound) few;
  fits = λ k low.
      let there : k < length rows = omega (arith, low, h.count) in
      let size = number_size (get_or rows k no_row) (are k no_row there) t in
      subst (λ z. nat_abs z ≤ a.bound) (sym (h.numbers k there)) (subst (λ n. nat_abs (number_on (get_or rows k no_row) t) ≤ n) (sym h.bound) size);
}

-- a lane that may be taken from 0 is that of the term
pub lane_signed : (minus : Bool) (t : Term) (rows : List Obj) (a b : Lane) → IsLane rows t a → IsSigned minus a b
    → IsLane rows (if minus then Minus t else t) b
lane_signed true t rows a b h s = record {
  bound = s.bound ∙ h.bound;
  count = s.count ∙ h.count;
  masked = s.masked ∙ h.masked;
  numbers = λ k low. s.numbers k (omega (arith, low, h.masked)) ∙ ap neg_ℤ (h.numbers k low);
  known = λ k low. s.known k (omega (arith, low, h.masked)) ∙ (h.known k low ∙ sym (known_minus _));
}
lane_signed false t rows a b h s = record {
  bound = s.bound ∙ h.bound;
  count = s.count ∙ h.count;
  masked = s.masked ∙ h.masked;
  numbers = λ k low. s.numbers k (omega (arith, low, h.masked)) ∙ h.numbers k low;
  known = λ k low. s.known k (omega (arith, low, h.masked)) ∙ h.known k low;
}
