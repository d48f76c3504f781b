-- The row of subchunks that has a height, by one division.
use Rattle.std.proofs.Common.{◌≡◌, ℕ, ℤ, pos, ◌+◌, ◌-◌, ◌*◌, ◌/◌, ◌<◌, ◌≤◌, ◌-ℤ◌, ◌≤ℤ◌, ◌<ℤ◌, nat_abs, ◌^◌, arith, w64, to_z, of_z, FitsSigned, subst, sym}
use Rattle.std.proofs.Math.Nat.{div-mul-le_self, lt-div-mul-add}
use Rattle.std.proofs.lemmas.Int.{ints, to_z-of_z}
use lib.IntN.{neg_ℤ}
use Rattle.std.proofs.lemmas.Nat.{le-div, div_below, div-mul-add}
use Rattle.wedge_rules.proofs.Products.{times_le}
use Rattle.sky_rules.specs.Partition.{Site, sky_bottom, sky_end}
use Rattle.sky_rules.specs.Bounds.{height_of, row_start}
use Rattle.sky_rules.proofs.Rows.{start, start_up, start_end}
use Rattle.sky_plan.specs.Sites.{IsPlaced, HasHeight}

-- a small number is one that 64 bits hold
fits_small : (z : ℤ) → neg_ℤ (pos (2 ^ 29)) ≤ℤ z → z ≤ℤ pos (2 ^ 29) → FitsSigned w64 z
fits_small z lo hi = search (arith, ints)

-- so it stays itself
pub kept : (z : ℤ) → neg_ℤ (pos (2 ^ 29)) ≤ℤ z → z ≤ℤ pos (2 ^ 29) → to_z w64 (of_z w64 z) ≡ z
kept z lo hi = let fits = fits_small z lo hi in to_z-of_z w64 z fits

-- the row that the division gives for d above the bound of a stripe of height h
abbrev pub row_at : ℕ → ℕ → ℕ → ℕ
row_at h rows d = ((d + 1) * rows - 1) / h

-- it is one of the rows
row_below : (h rows d : ℕ) → 0 < rows → d < h → row_at h rows d < rows
row_below h rows d some high =
    let more = times_le (d + 1) h rows (omega (arith, high)) in
    div_below ((d + 1) * rows - 1) h rows (omega (arith, high)) (omega (arith, more, some))

-- it begins no higher
row_low : (h rows d : ℕ) → 0 < rows → d < h → start h rows (row_at h rows d) ≤ d
row_low h rows d some high =
    let back = div-mul-le_self ((d + 1) * rows - 1) h in
    let short : row_at h rows d * h < (d + 1) * rows = omega (arith, back, some) in
    let below = div_below (row_at h rows d * h) rows (d + 1) some short in omega (arith, below)

-- and the next one begins above
row_high : (h rows d : ℕ) → 0 < rows → d < h → d < start h rows (row_at h rows d + 1)
row_high h rows d some high =
    let more = lt-div-mul-add {a = (d + 1) * rows - 1} {b = h} (omega (arith, high)) in
    let enough : (d + 1) * rows ≤ (row_at h rows d + 1) * h = omega (arith, more, some) in
    let up = le-div (d + 1) ((row_at h rows d + 1) * h) rows some enough in omega (arith, up)

-- a number from 0 on is its size
size_of : (z : ℤ) → pos 0 ≤ℤ z → pos (nat_abs z) ≡ z
size_of z h = grind (arith, ints)

-- the height of a site, at most that of the sky
pub site_height : (site : Site) → IsPlaced site → pos (height_of site) ≡ site.end -ℤ site.stripe.z_low
site_height site is = let high = is.high in size_of (site.end -ℤ site.stripe.z_low) (omega (arith, ints, high))

-- a site is at least 64 high, and no higher than the sky
pub height_within : (site : Site) → IsPlaced site → (64 ≤ height_of site) × (height_of site ≤ 536870945)
height_within site is =
    let tall = site_height site is in
    let low = is.bottom in
    let high = is.high in
    let end = is.end in (omega (arith, ints, tall, high), omega (arith, ints, tall, low, end))

-- a row begins no farther above the bound than the site is high
start_within : (site : Site) (t : ℕ) → IsPlaced site → t ≤ site.stripe.rows
    → t * height_of site / site.stripe.rows ≤ height_of site
start_within site t is le =
    let up = start_up (height_of site) site.stripe.rows t site.stripe.rows is.stripe.some_rows le in
    let end = start_end (height_of site) site.stripe.rows is.stripe.some_rows in omega (arith, up, end)

-- the row that the division gives has the height
pub row_found : (site : Site) (z : ℤ) → IsPlaced site → site.stripe.z_low ≤ℤ z → z <ℤ site.end
    → HasHeight site (row_at (height_of site) site.stripe.rows (nat_abs (z -ℤ site.stripe.z_low))) z
row_found site z is low high =
    let h = height_of site in
    let rows = site.stripe.rows in
    let d = nat_abs (z -ℤ site.stripe.z_low) in
    let above = size_of (z -ℤ site.stripe.z_low) (omega (arith, ints, low)) in
    let tall = site_height site is in
    let within : d < h = omega (arith, ints, above, tall, high) in
    let some = is.stripe.some_rows in
    let begins = row_low h rows d some within in
    let ends = row_high h rows d some within in
    record { there = row_below h rows d some within; low = omega (arith, ints, above, begins); high = omega (arith, ints, above, ends) }

-- the same, of its parts
pub row_found_by : (site : Site) (z : ℤ) (above rows height : ℕ) → IsPlaced site → site.stripe.z_low ≤ℤ z → z <ℤ site.end
    → above ≡ nat_abs (z -ℤ site.stripe.z_low) → rows ≡ site.stripe.rows → height ≡ height_of site
    → HasHeight site (((above + 1) * rows - 1) / height) z
row_found_by site z above rows height is low high e f g = rw (e, f, g) (row_found site z is low high)

-- the number of a row and a column has the row's height
pub sub_row : (site : Site) (z : ℤ) (t j columns : ℕ) → columns ≡ site.stripe.columns → j < columns
    → HasHeight site t z → HasHeight site ((t * columns + j) / site.stripe.columns) z
sub_row site z t j columns e h row =
    let back = subst (λ k. (t * columns + j) / k ≡ t) e (div-mul-add t columns j h) in
    subst (λ n. HasHeight site n z) (sym back) row

-- a row of the site begins at or below the end of the sky, as the number that is passed on
pub row_in_sky : (site : Site) (t : ℕ) (z : ℤ) → IsPlaced site → t ≤ site.stripe.rows → z ≡ row_start site t
    → to_z w64 (of_z w64 z) ≤ℤ sky_end
row_in_sky site t z is le e =
    let tall = site_height site is in
    let up = start_within site t is le in
    let bottom = is.bottom in
    let end = is.end in
    let low : sky_bottom ≤ℤ z = omega (arith, ints, e, bottom) in
    let high : z ≤ℤ sky_end = omega (arith, ints, e, tall, up, end) in
    rw (kept z (omega (arith, ints, low)) (omega (arith, ints, high))) high

-- a row of the site begins below the next, as the numbers that are passed on
pub rows_rise : (site : Site) (t : ℕ) (low high : ℤ) → IsPlaced site → t < site.stripe.rows → low ≡ row_start site t → high ≡ row_start site (t + 1)
    → to_z w64 (of_z w64 low) <ℤ to_z w64 (of_z w64 high)
rows_rise site t low high is less e f =
    let h = height_of site in
    let rows = site.stripe.rows in
    let some = is.stripe.some_rows in
    let few = is.stripe.few_rows in
    let tall = site_height site is in
    let bottom = is.bottom in
    let end = is.end in
    let size = (height_within site is).0 in
    let quotient = div-mul-le_self (t * h) rows in
    let enough : (t * h / rows + 1) * rows ≤ (t + 1) * h = omega (arith, quotient, few, size) in
    let more = le-div (t * h / rows + 1) ((t + 1) * h) rows some enough in
    let most = start_within site (t + 1) is (omega (arith, less)) in
    let rise : low <ℤ high = omega (arith, ints, e, f, more) in
    let above : sky_bottom ≤ℤ low = omega (arith, ints, e, bottom) in
    let below : high ≤ℤ sky_end = omega (arith, ints, f, tall, most, end) in
    rw (kept low (omega (arith, ints, above)) (omega (arith, ints, rise, below)), kept high (omega (arith, ints, above, rise)) (omega (arith, ints, below))) rise
