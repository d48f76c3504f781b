-- The signs along the whole walk, for a point of each quarter: it is turned back to the right side.
use Rattle.std.proofs.Common.{◌≡◌, ℕ, ℤ, pos, ◌*◌, ◌+ℤ◌, ◌≤ℤ◌, ◌<ℤ◌, arith, sym, ◌∙◌, subst}
use Rattle.std.proofs.lemmas.Int.{ints}
use lib.IntN.{neg_ℤ}
use Rattle.wedge_rules.specs.Heading.{walk, past}
use Rattle.wedge_rules.proofs.Products.{neg_mul, mul_neg}
use Rattle.wedge_rules.proofs.Sides.{Signs, OnRight, side_right, side_top, side_left, side_bottom, at_right, at_top, at_left, at_bottom, at_right_again}
use Rattle.wedge_rules.proofs.Walk.{Side, on_right, on_top, on_left, on_bottom, on_right_again}

-- what sign z stands at step t of the walk, where the point's step is there
pub record SignAt (n : ℕ) (there : ℤ) (t : ℕ) (z : ℤ) : Type 0 where
  pub far_down : (pos t +ℤ pos (4 * n)) <ℤ there → z <ℤ pos 0
  pub up : there <ℤ (pos t +ℤ pos (4 * n)) → pos t ≤ℤ there → pos 0 ≤ℤ z
  pub down : there <ℤ pos t → pos t <ℤ (there +ℤ pos (4 * n)) → z <ℤ pos 0
  pub up_again : (there +ℤ pos (4 * n)) <ℤ pos t → pos t ≤ℤ (there +ℤ pos (8 * n)) → pos 0 ≤ℤ z
  pub down_again : (there +ℤ pos (8 * n)) <ℤ pos t → z <ℤ pos 0

-- on a side not before the right one, seen from the point
on : (n : ℕ) (there x y shift u : ℤ) (t : ℕ) (z : ℤ) → OnRight n there x y → Signs n there u z → pos t ≡ u +ℤ shift → neg_ℤ (pos n) ≤ℤ u → SignAt n (there +ℤ shift) t z
on n there x y shift u t z p s e lo = record {
  far_down = λ h. omega (arith, ints, h, e, lo, p.to, p.some);
  up = λ h k. s.up_to (omega (arith, ints, k, e));
  down = λ h k. s.down_to (omega (arith, ints, h, e)) (omega (arith, ints, k, e));
  up_again = λ h k. s.up_again (omega (arith, ints, h, e)) (omega (arith, ints, k, e));
  down_again = λ h. s.down_again (omega (arith, ints, h, e));
}

-- on a side before it
back : (n : ℕ) (there x y shift u : ℤ) (t : ℕ) (z : ℤ) → OnRight n there x y → Signs n there u z → pos t +ℤ pos (8 * n) ≡ u +ℤ shift → pos n ≤ℤ u → u <ℤ pos (7 * n) → SignAt n (there +ℤ shift) t z
back n there x y shift u t z p s e lo hi = record {
  far_down = λ h. s.down_to (omega (arith, ints, lo, p.to)) (omega (arith, ints, h, e));
  up = λ h k. s.up_again (omega (arith, ints, h, e)) (omega (arith, ints, k, e));
  down = λ h k. omega (arith, ints, h, e, hi, p.from);
  up_again = λ h k. omega (arith, ints, h, e, hi, p.from);
  down_again = λ h. omega (arith, ints, h, e, hi, p.from);
}

-- a point turned back by a quarter of a turn: which side becomes which
once_right : (n r x y : ℤ) → side_right n r x y ≡ side_bottom n r y (neg_ℤ x)
once_right n r x y = simp (neg_mul, mul_neg) (omega (arith, ints))

-- the upper side
once_top : (n r x y : ℤ) → side_top n r x y ≡ side_right n r y (neg_ℤ x)
once_top n r x y = simp (neg_mul, mul_neg) (omega (arith, ints))

-- the left side
once_left : (n r x y : ℤ) → side_left n r x y ≡ side_top n r y (neg_ℤ x)
once_left n r x y = simp (neg_mul, mul_neg) (omega (arith, ints))

-- the lower side
once_bottom : (n r x y : ℤ) → side_bottom n r x y ≡ side_left n r y (neg_ℤ x)
once_bottom n r x y = simp (neg_mul, mul_neg) (omega (arith, ints))

-- by half a turn
twice_right : (n r x y : ℤ) → side_right n r x y ≡ side_left n r (neg_ℤ x) (neg_ℤ y)
twice_right n r x y = simp (neg_mul, mul_neg) (omega (arith, ints))

-- the upper side
twice_top : (n r x y : ℤ) → side_top n r x y ≡ side_bottom n r (neg_ℤ x) (neg_ℤ y)
twice_top n r x y = simp (neg_mul, mul_neg) (omega (arith, ints))

-- the left side
twice_left : (n r x y : ℤ) → side_left n r x y ≡ side_right n r (neg_ℤ x) (neg_ℤ y)
twice_left n r x y = simp (neg_mul, mul_neg) (omega (arith, ints))

-- the lower side
twice_bottom : (n r x y : ℤ) → side_bottom n r x y ≡ side_top n r (neg_ℤ x) (neg_ℤ y)
twice_bottom n r x y = simp (neg_mul, mul_neg) (omega (arith, ints))

-- by three quarters
thrice_right : (n r x y : ℤ) → side_right n r x y ≡ side_top n r (neg_ℤ y) x
thrice_right n r x y = simp (neg_mul, mul_neg) (omega (arith, ints))

-- the upper side
thrice_top : (n r x y : ℤ) → side_top n r x y ≡ side_left n r (neg_ℤ y) x
thrice_top n r x y = simp (neg_mul, mul_neg) (omega (arith, ints))

-- the left side
thrice_left : (n r x y : ℤ) → side_left n r x y ≡ side_bottom n r (neg_ℤ y) x
thrice_left n r x y = simp (neg_mul, mul_neg) (omega (arith, ints))

-- the lower side
thrice_bottom : (n r x y : ℤ) → side_bottom n r x y ≡ side_right n r (neg_ℤ y) x
thrice_bottom n r x y = simp (neg_mul, mul_neg) (omega (arith, ints))

-- the same sign of an equal number
at_place : (n : ℕ) (there : ℤ) (t : ℕ) (z w : ℤ) → w ≡ z → SignAt n there t z → SignAt n there t w
at_place n there t z w e p = subst (λ v. SignAt n there t v) (sym e) p

-- the signs of a point of the right quarter
pub place_right : (n t : ℕ) (there x y : ℤ) → OnRight n there x y → Side n t → SignAt n (there +ℤ pos 0) t (past (walk n t) x y)
place_right n t there x y p (on_right r e lo hi is) = at_place _ _ _ _ _ (is x y) (on n there x y (pos 0) r t _ p (at_right n there x y r p lo hi) (omega (arith, ints)) (omega (arith, ints)))
place_right n t there x y p (on_top r e lo hi is) = at_place _ _ _ _ _ (is x y) (on n there x y (pos 0) (r +ℤ pos (2 * n)) t _ p (at_top n there x y r p lo hi) (omega (arith, ints)) (omega (arith, ints)))
place_right n t there x y p (on_left r e lo hi is) = at_place _ _ _ _ _ (is x y) (on n there x y (pos 0) (r +ℤ pos (4 * n)) t _ p (at_left n there x y r p lo hi) (omega (arith, ints)) (omega (arith, ints)))
place_right n t there x y p (on_bottom r e lo hi is) = at_place _ _ _ _ _ (is x y) (on n there x y (pos 0) (r +ℤ pos (6 * n)) t _ p (at_bottom n there x y r p lo hi) (omega (arith, ints)) (omega (arith, ints)))
place_right n t there x y p (on_right_again r e lo hi is) = at_place _ _ _ _ _ (is x y) (on n there x y (pos 0) (r +ℤ pos (8 * n)) t _ p (at_right_again n there x y r p lo hi) (omega (arith, ints)) (omega (arith, ints)))

-- of the upper quarter
pub place_top : (n t : ℕ) (there x y : ℤ) → OnRight n there y (neg_ℤ x) → Side n t → SignAt n (there +ℤ pos (2 * n)) t (past (walk n t) x y)
place_top n t there x y p (on_right r e lo hi is) = at_place _ _ _ _ _ (is x y ∙ once_right (pos n) r x y) (back n there y (neg_ℤ x) (pos (2 * n)) (r +ℤ pos (6 * n)) t _ p (at_bottom n there y (neg_ℤ x) r p lo hi) (omega (arith, ints)) (omega (arith, ints)) (omega (arith, ints)))
place_top n t there x y p (on_top r e lo hi is) = at_place _ _ _ _ _ (is x y ∙ once_top (pos n) r x y) (on n there y (neg_ℤ x) (pos (2 * n)) r t _ p (at_right n there y (neg_ℤ x) r p lo hi) (omega (arith, ints)) (omega (arith, ints)))
place_top n t there x y p (on_left r e lo hi is) = at_place _ _ _ _ _ (is x y ∙ once_left (pos n) r x y) (on n there y (neg_ℤ x) (pos (2 * n)) (r +ℤ pos (2 * n)) t _ p (at_top n there y (neg_ℤ x) r p lo hi) (omega (arith, ints)) (omega (arith, ints)))
place_top n t there x y p (on_bottom r e lo hi is) = at_place _ _ _ _ _ (is x y ∙ once_bottom (pos n) r x y) (on n there y (neg_ℤ x) (pos (2 * n)) (r +ℤ pos (4 * n)) t _ p (at_left n there y (neg_ℤ x) r p lo hi) (omega (arith, ints)) (omega (arith, ints)))
place_top n t there x y p (on_right_again r e lo hi is) = at_place _ _ _ _ _ (is x y ∙ once_right (pos n) r x y) (on n there y (neg_ℤ x) (pos (2 * n)) (r +ℤ pos (6 * n)) t _ p (at_bottom n there y (neg_ℤ x) r p lo (omega (arith, ints, hi, p.some))) (omega (arith, ints)) (omega (arith, ints)))

-- of the left quarter
pub place_left : (n t : ℕ) (there x y : ℤ) → OnRight n there (neg_ℤ x) (neg_ℤ y) → Side n t → SignAt n (there +ℤ pos (4 * n)) t (past (walk n t) x y)
place_left n t there x y p (on_right r e lo hi is) = at_place _ _ _ _ _ (is x y ∙ twice_right (pos n) r x y) (back n there (neg_ℤ x) (neg_ℤ y) (pos (4 * n)) (r +ℤ pos (4 * n)) t _ p (at_left n there (neg_ℤ x) (neg_ℤ y) r p lo hi) (omega (arith, ints)) (omega (arith, ints)) (omega (arith, ints)))
place_left n t there x y p (on_top r e lo hi is) = at_place _ _ _ _ _ (is x y ∙ twice_top (pos n) r x y) (back n there (neg_ℤ x) (neg_ℤ y) (pos (4 * n)) (r +ℤ pos (6 * n)) t _ p (at_bottom n there (neg_ℤ x) (neg_ℤ y) r p lo hi) (omega (arith, ints)) (omega (arith, ints)) (omega (arith, ints)))
place_left n t there x y p (on_left r e lo hi is) = at_place _ _ _ _ _ (is x y ∙ twice_left (pos n) r x y) (on n there (neg_ℤ x) (neg_ℤ y) (pos (4 * n)) r t _ p (at_right n there (neg_ℤ x) (neg_ℤ y) r p lo hi) (omega (arith, ints)) (omega (arith, ints)))
place_left n t there x y p (on_bottom r e lo hi is) = at_place _ _ _ _ _ (is x y ∙ twice_bottom (pos n) r x y) (on n there (neg_ℤ x) (neg_ℤ y) (pos (4 * n)) (r +ℤ pos (2 * n)) t _ p (at_top n there (neg_ℤ x) (neg_ℤ y) r p lo hi) (omega (arith, ints)) (omega (arith, ints)))
place_left n t there x y p (on_right_again r e lo hi is) = at_place _ _ _ _ _ (is x y ∙ twice_right (pos n) r x y) (on n there (neg_ℤ x) (neg_ℤ y) (pos (4 * n)) (r +ℤ pos (4 * n)) t _ p (at_left n there (neg_ℤ x) (neg_ℤ y) r p lo (omega (arith, ints, hi, p.some))) (omega (arith, ints)) (omega (arith, ints)))

-- of the lower quarter
pub place_bottom : (n t : ℕ) (there x y : ℤ) → OnRight n there (neg_ℤ y) x → Side n t → SignAt n (there +ℤ pos (6 * n)) t (past (walk n t) x y)
place_bottom n t there x y p (on_right r e lo hi is) = at_place _ _ _ _ _ (is x y ∙ thrice_right (pos n) r x y) (back n there (neg_ℤ y) x (pos (6 * n)) (r +ℤ pos (2 * n)) t _ p (at_top n there (neg_ℤ y) x r p lo hi) (omega (arith, ints)) (omega (arith, ints)) (omega (arith, ints)))
place_bottom n t there x y p (on_top r e lo hi is) = at_place _ _ _ _ _ (is x y ∙ thrice_top (pos n) r x y) (back n there (neg_ℤ y) x (pos (6 * n)) (r +ℤ pos (4 * n)) t _ p (at_left n there (neg_ℤ y) x r p lo hi) (omega (arith, ints)) (omega (arith, ints)) (omega (arith, ints)))
place_bottom n t there x y p (on_left r e lo hi is) = at_place _ _ _ _ _ (is x y ∙ thrice_left (pos n) r x y) (back n there (neg_ℤ y) x (pos (6 * n)) (r +ℤ pos (6 * n)) t _ p (at_bottom n there (neg_ℤ y) x r p lo hi) (omega (arith, ints)) (omega (arith, ints)) (omega (arith, ints)))
place_bottom n t there x y p (on_bottom r e lo hi is) = at_place _ _ _ _ _ (is x y ∙ thrice_bottom (pos n) r x y) (on n there (neg_ℤ y) x (pos (6 * n)) r t _ p (at_right n there (neg_ℤ y) x r p lo hi) (omega (arith, ints)) (omega (arith, ints)))
place_bottom n t there x y p (on_right_again r e lo hi is) = at_place _ _ _ _ _ (is x y ∙ thrice_right (pos n) r x y) (on n there (neg_ℤ y) x (pos (6 * n)) (r +ℤ pos (2 * n)) t _ p (at_top n there (neg_ℤ y) x r p lo (omega (arith, ints, hi, p.some))) (omega (arith, ints)) (omega (arith, ints)))
