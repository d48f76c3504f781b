use Rattle.std.proofs.Common.{◌≡◌, ℕ, ◌^◌, ℤ, pos, neg_ℤ, ◌≤ℤ◌, ◌-ℤ◌, arith, w64, FitsSigned, to_z, of_z}
use Rattle.std.proofs.lemmas.Int.{ints, to_z-of_z}
use Rattle.wedge_rules.specs.Bearing.{wedge_at, IsBearing}
use Rattle.wedge_rules.proofs.Bearings.{wedge_right, wedge_top, wedge_left, wedge_bottom, last_quarter}
use Rattle.wedge_rules.proofs.bearing.bearing.Goals as goal

-- a coordinate fits 64 bits
fits_small : (z : ℤ) → neg_ℤ (pos (2 ^ 29)) ≤ℤ z → z ≤ℤ pos (2 ^ 29) → FitsSigned w64 z
fits_small z lo hi = search (arith, ints)

-- a coordinate that was passed is that coordinate
same : (z : ℤ) → neg_ℤ (pos (2 ^ 29)) ≤ℤ z → z ≤ℤ pos (2 ^ 29) → to_z w64 (of_z w64 z) ≡ z
same z lo hi = let fits = fits_small z lo hi in to_z-of_z w64 z fits

-- so is its opposite
same_back : (z : ℤ) → neg_ℤ (pos (2 ^ 29)) ≤ℤ z → z ≤ℤ pos (2 ^ 29) → to_z w64 (of_z w64 (pos 0 -ℤ to_z w64 (of_z w64 z))) ≡ neg_ℤ z
same_back z lo hi =
    let e = same z lo hi in
    let f : pos 0 -ℤ z ≡ neg_ℤ z = omega (arith, ints) in
    rw (e, f) (same (neg_ℤ z) (omega (arith, ints, hi)) (omega (arith, ints, lo)))

-- the bearing of a turned point, by what was passed
bearing_at : (n k : ℕ) (x y a b a' b' : ℤ) (base : ℕ) → k ≡ wedge_at n a b base → a ≡ a' → b ≡ b' → IsBearing n (wedge_at n a' b' base) x y → IsBearing n k x y
bearing_at n k x y a b a' b' base e f g h = rw (e, f, g) h

pub returns-then-x-y : goal.returns-then-x-y
returns-then-x-y c =
    let x = same c.args.x c.requires.x_low c.requires.x_high in
    let y = same c.args.y c.requires.y_low c.requires.y_high in
    bearing_at _ _ _ _ _ _ _ _ _ c.turned_wedge.ensures x y (wedge_right c.args.wedges c.args.x c.args.y c.requires.some (omega (arith, ints, c.if-x-y.true)) (omega (arith, ints, c.if-y-x.true)))

pub returns-else-x-y : goal.returns-else-x-y
returns-else-x-y c =
    let x = same c.args.x c.requires.x_low c.requires.x_high in
    let y = same_back c.args.y c.requires.y_low c.requires.y_high in
    bearing_at _ _ _ _ _ _ _ _ _ c.turned_wedge-else-x-y.ensures y x (wedge_bottom c.args.wedges c.args.x c.args.y c.requires.some (omega (arith, ints, c.if-y-x.true)) (omega (arith, ints, c.if-x-y.false)))

pub returns-then-x-y-2 : goal.returns-then-x-y-2
returns-then-x-y-2 c =
    let y = same c.args.y c.requires.y_low c.requires.y_high in
    let x = same_back c.args.x c.requires.x_low c.requires.x_high in
    bearing_at _ _ _ _ _ _ _ _ _ c.turned_wedge-then-x-y-2.ensures y x (wedge_top c.args.wedges c.args.x c.args.y c.requires.some (omega (arith, ints, c.if-y-x.false)) (omega (arith, ints, c.if-x-y-2.true)))

pub returns-then-x-y-3 : goal.returns-then-x-y-3
returns-then-x-y-3 c =
    let y = same_back c.args.y c.requires.y_low c.requires.y_high in
    let x = same_back c.args.x c.requires.x_low c.requires.x_high in
    bearing_at _ _ _ _ _ _ _ _ _ c.turned_wedge-then-x-y-3.ensures x y (wedge_left c.args.wedges c.args.x c.args.y c.requires.some (omega (arith, ints, c.if-x-y-2.false)) (omega (arith, ints, c.if-x-y-3.true)))

pub returns-else-x-y-3 : goal.returns-else-x-y-3
returns-else-x-y-3 c =
    let x = same c.args.x c.requires.x_low c.requires.x_high in
    let y = same_back c.args.y c.requires.y_low c.requires.y_high in
    bearing_at _ _ _ _ _ _ _ _ _ c.turned_wedge-else-x-y-3.ensures y x (last_quarter c.args.wedges c.args.x c.args.y c.requires.some c.requires.off_axis (omega (arith, ints, c.if-y-x.false)) (omega (arith, ints, c.if-x-y-2.false)) (omega (arith, ints, c.if-x-y-3.false)))
