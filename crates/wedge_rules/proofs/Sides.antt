-- The signs on the four sides of the square, for a point of the right side: one that lies within an eighth of a turn of
-- the middle of the right side. Its step there is found by a division.
use Rattle.std.proofs.Common.{ℕ, ℤ, pos, ◌*◌, ◌<◌, ◌+ℤ◌, ◌*ℤ◌, ◌≤ℤ◌, ◌<ℤ◌, arith}
use Rattle.std.proofs.lemmas.Int.{ints}
use lib.IntN.{neg_ℤ}
use Rattle.sky_vector.specs.Plane.{plane_product}
use Rattle.wedge_rules.proofs.Products.{right_side, before_place, ahead_up, neg_mul}

-- what sign z stands u steps on, where the point's step is there: from 0 on up to it, below 0 for half the walk, and
-- the same once more. At half the walk itself nothing is said
pub record Signs (n : ℕ) (there u z : ℤ) : Type 0 where
  pub up_to : u ≤ℤ there → pos 0 ≤ℤ z
  pub down_to : there <ℤ u → u <ℤ (there +ℤ pos (4 * n)) → z <ℤ pos 0
  pub up_again : (there +ℤ pos (4 * n)) <ℤ u → u ≤ℤ (there +ℤ pos (8 * n)) → pos 0 ≤ℤ z
  pub down_again : (there +ℤ pos (8 * n)) <ℤ u → z <ℤ pos 0

-- a point of the right side, and the step next below it
pub record OnRight (n : ℕ) (there x y : ℤ) : Type 0 where
  pub some : 0 < n
  pub ahead : pos 0 <ℤ x
  pub left : neg_ℤ x ≤ℤ y
  pub right : y <ℤ x
  pub low : (there *ℤ x) ≤ℤ (pos n *ℤ y)
  pub high : (pos n *ℤ y) <ℤ ((there +ℤ pos 1) *ℤ x)
  pub from : neg_ℤ (pos n) ≤ℤ there
  pub to : there <ℤ pos n

-- the product with the direction r steps from the middle of the right side
abbrev pub side_right : ℤ → ℤ → ℤ → ℤ → ℤ
side_right n r x y = plane_product n r x y

-- of the upper side
abbrev pub side_top : ℤ → ℤ → ℤ → ℤ → ℤ
side_top n r x y = plane_product (neg_ℤ r) n x y

-- of the left side
abbrev pub side_left : ℤ → ℤ → ℤ → ℤ → ℤ
side_left n r x y = plane_product (neg_ℤ n) (neg_ℤ r) x y

-- of the lower side
abbrev pub side_bottom : ℤ → ℤ → ℤ → ℤ → ℤ
side_bottom n r x y = plane_product r (neg_ℤ n) x y

-- the signs on the right side
pub at_right : (n : ℕ) (there x y r : ℤ) → OnRight n there x y → neg_ℤ (pos n) ≤ℤ r → r <ℤ pos n → Signs n there r (side_right (pos n) r x y)
at_right n there x y r p lo hi =
    let s = right_side (pos n) y x there r (omega (arith, ints, p.ahead)) p.low p.high in
    record {
      up_to = λ h. let a = s.0 h in omega (arith, ints, a);
      down_to = λ h k. let a = s.1 h in omega (arith, ints, a);
      up_again = λ h k. omega (arith, ints, h, k, hi, p.from);
      down_again = λ h. omega (arith, ints, h, hi, p.from);
    }

-- on the upper side
pub at_top : (n : ℕ) (there x y r : ℤ) → OnRight n there x y → neg_ℤ (pos n) ≤ℤ r → r <ℤ pos n → Signs n there (r +ℤ pos (2 * n)) (side_top (pos n) r x y)
at_top n there x y r p lo hi =
    let a = ahead_up (pos n) r x y (omega (arith, ints, p.some)) lo hi p.left p.right in
    let e = neg_mul r y in
    let z : side_top (pos n) r x y <ℤ pos 0 = omega (arith, ints, a, e) in
    record {
      up_to = λ h. omega (arith, ints, h, lo, p.to);
      down_to = λ h k. z;
      up_again = λ h k. omega (arith, ints, h, k, hi, p.from);
      down_again = λ h. z;
    }

-- on the left side
pub at_left : (n : ℕ) (there x y r : ℤ) → OnRight n there x y → neg_ℤ (pos n) ≤ℤ r → r <ℤ pos n → Signs n there (r +ℤ pos (4 * n)) (side_left (pos n) r x y)
at_left n there x y r p lo hi =
    let s = right_side (pos n) y x there r (omega (arith, ints, p.ahead)) p.low p.high in
    let e = neg_mul r x in
    let f = neg_mul (pos n) y in
    record {
      up_to = λ h. omega (arith, ints, h, lo, p.to);
      down_to = λ h k. let g : r <ℤ there = omega (arith, ints, k) in let a = before_place (pos n) y x there r p.ahead p.low g in omega (arith, ints, a, e, f);
      up_again = λ h k. let g : there <ℤ r = omega (arith, ints, h) in let a = s.1 g in omega (arith, ints, a, e, f);
      down_again = λ h. omega (arith, ints, h, hi, p.from);
    }

-- on the lower side
pub at_bottom : (n : ℕ) (there x y r : ℤ) → OnRight n there x y → neg_ℤ (pos n) ≤ℤ r → r <ℤ pos n → Signs n there (r +ℤ pos (6 * n)) (side_bottom (pos n) r x y)
at_bottom n there x y r p lo hi =
    let a = ahead_up (pos n) r x y (omega (arith, ints, p.some)) lo hi p.left p.right in
    let e = neg_mul (pos n) x in
    let z : pos 0 ≤ℤ side_bottom (pos n) r x y = omega (arith, ints, a, e) in
    record {
      up_to = λ h. z;
      down_to = λ h k. omega (arith, ints, h, k, lo, p.to);
      up_again = λ h k. z;
      down_again = λ h. omega (arith, ints, h, hi, p.from);
    }

-- on the right side again, up to its middle
pub at_right_again : (n : ℕ) (there x y r : ℤ) → OnRight n there x y → neg_ℤ (pos n) ≤ℤ r → r ≤ℤ pos 0 → Signs n there (r +ℤ pos (8 * n)) (side_right (pos n) r x y)
at_right_again n there x y r p lo hi =
    let s = right_side (pos n) y x there r (omega (arith, ints, p.ahead)) p.low p.high in
    record {
      up_to = λ h. omega (arith, ints, h, lo, p.to, p.some);
      down_to = λ h k. omega (arith, ints, h, k, lo, p.to, p.some);
      up_again = λ h k. let g : r ≤ℤ there = omega (arith, ints, k) in let a = s.0 g in omega (arith, ints, a);
      down_again = λ h. let g : there <ℤ r = omega (arith, ints, h) in let a = s.1 g in omega (arith, ints, a);
    }
