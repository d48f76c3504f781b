-- The place of a point.
use Rattle.std.proofs.Common.{◌≡◌, ℕ, ℤ, pos, ◌+◌, ◌*◌, ◌/◌, ◌%◌, ◌<◌, ◌≤ℤ◌, ◌<ℤ◌, ◌∙◌, arith, ap, subst, sym, true, int_le, length, take}
use Rattle.std.proofs.lemmas.Bool.{and_parts}
use Rattle.std.proofs.lemmas.Int.{ints}
use Rattle.std.proofs.lemmas.Nat.{div-add-mod'}
use lib.IntN.{neg_ℤ}
use Rattle.sky_vector.specs.Points.{Point, IsAdmissible, square_of, square}
use Rattle.sky_vector.proofs.Signed.{square_up}
use Rattle.wedge_rules.specs.Wedge.{InWedge}
use Rattle.wedge_rules.proofs.Products.{neg_mul, mul_neg}
use Rattle.wedge_rules.proofs.Tests.{le_from}
use Rattle.sky_rules.specs.Partition.{Site, Partition, sky_bottom, sky_end, chunks_in, chunk_count, sub_count}
use Rattle.sky_rules.specs.Bounds.{in_bounds, in_sub, sub_bounds, row_start}
use Rattle.sky_rules.specs.Limits.{IsSky}
use Rattle.sky_rules.specs.Laws.{IsOnlyPlace}
use Rattle.sky_rules.proofs.Near.{below_root}
use Rattle.sky_rules.proofs.OnlyPlace.{exactly_one_place}
use Rattle.sky_rules.proofs.Rows.{column_below, number_below}
use Rattle.sky_rules.proofs.Bounds.{holds_to, wedge_to}
use Rattle.sky_plan.specs.Plans.{stripe_numbered}
use Rattle.sky_plan.specs.Sites.{IsPlaced, HasHeight, site_numbered}
use Rattle.sky_plan.proofs.Stripes.{placed_at, chunk_at, counted_at}

-- a number and its opposite have one square
square_neg : (a : ℤ) → square (neg_ℤ a) ≡ square a
square_neg a =
    let outer = neg_mul a (neg_ℤ a) in
    let inner = mul_neg a a in omega (arith, ints, outer, inner)

-- an admissible point is no farther up or down than the sky goes
pub height_in_sky : (p : Point) → IsAdmissible p → (sky_bottom ≤ℤ p.z) × (p.z <ℤ sky_end)
height_in_sky p ok =
    let tests = and_parts (int_le (pos (268435440 * 268435440)) (square_of p)) (int_le (square_of p) (pos (268435472 * 268435472))) ok in
    let most : square_of p ≤ℤ pos (268435472 * 268435472) = le_from (square_of p) (pos (268435472 * 268435472)) tests.1 in
    let x = square_up p.x in
    let y = square_up p.y in
    let up : square p.z ≤ℤ square (pos 268435472) = omega (arith, ints, most, x, y) in
    let turned = square_neg p.z in
    let down : square (neg_ℤ p.z) ≤ℤ square (pos 268435472) = omega (arith, ints, turned, up) in
    let high = below_root p.z (pos 268435472) (omega (arith, ints)) up in
    let low = below_root (neg_ℤ p.z) (pos 268435472) (omega (arith, ints)) down in (omega (arith, ints, low), omega (arith, ints, high))

-- a place that holds a point is its only place
only_place : (g : Partition) (p : Point) (c s : ℕ) → IsSky g → IsAdmissible p → c < chunk_count g → s < sub_count g c
    → in_sub g c s p ≡ true → IsOnlyPlace g c s p
only_place g p c s sky ok hc hs held =
    let o = exactly_one_place g p sky ok in
    let same = o.1.1.no_other_sub c s hc hs held in
    subst (λ d. IsOnlyPlace g d s p) (sym same.0) (subst (λ t. IsOnlyPlace g o.0 t p) (sym same.1) o.1.1)

-- the subchunk of a row that has the point's height and a column that has its direction holds the point
sub_holds : (site : Site) (s : ℕ) (p : Point) → IsPlaced site → HasHeight site (s / site.stripe.columns) p.z
    → InWedge (site.stripe.chunks * site.stripe.columns) (site.wedge * site.stripe.columns + s % site.stripe.columns) p.x p.y
    → in_bounds (sub_bounds site s) p ≡ true
sub_holds site s p is row held =
    let m = site.stripe.columns in
    let t = s / m in
    let j = s % m in
    let column : j < m = column_below s m is.stripe.some_columns in
    let fine = number_below site.wedge j site.stripe.chunks m is.wedge column in
    holds_to (sub_bounds site s) p (wedge_to (site.stripe.chunks * m) (site.wedge * m + j) (row_start site t) (row_start site (t + 1)) p is.stripe.fine fine row.low row.high held)

-- the place of a point by its stripe, its fine wedge and its row
pub place_found : (g : Partition) (n fine s : ℕ) (p : Point) → IsSky g → IsAdmissible p → n < length g.stripes
    → fine / (stripe_numbered g n).columns < (stripe_numbered g n).chunks
    → InWedge ((stripe_numbered g n).chunks * (stripe_numbered g n).columns) fine p.x p.y
    → s < (stripe_numbered g n).rows * (stripe_numbered g n).columns
    → HasHeight (site_numbered g n (fine / (stripe_numbered g n).columns)) (s / (stripe_numbered g n).columns) p.z
    → s % (stripe_numbered g n).columns ≡ fine % (stripe_numbered g n).columns
    → IsOnlyPlace g (chunks_in (take n g.stripes) + fine / (stripe_numbered g n).columns) s p
place_found g n fine s p sky ok hn hw held hs row column =
    let stripe = stripe_numbered g n in
    let w = fine / stripe.columns in
    let site = site_numbered g n w in
    let there = chunk_at g n w hn hw in
    let parts = div-add-mod' fine stripe.columns in
    let e : fine ≡ w * stripe.columns + s % stripe.columns = omega (arith, parts, column) in
    let inside = subst (λ f. InWedge (stripe.chunks * stripe.columns) f p.x p.y) e held in
    let held_here = sub_holds site s p (placed_at g n w sky hn hw) row inside in
    only_place g p (chunks_in (take n g.stripes) + w) s sky ok (counted_at g n w hn hw)
    (subst (λ (at : Site). s < at.stripe.rows * at.stripe.columns) (sym there) hs)
    (subst (λ (at : Site). in_bounds (sub_bounds at s) p ≡ true) (sym there) held_here)

-- what the parts of a place's computation show, by its stripe's counts, its first chunk and its site
abbrev pub Shows : (g : Partition) (p : Point) (fine s chunks columns first : ℕ) → Site → Type 0
Shows g p fine s chunks columns first site =
    fine / columns < chunks → InWedge (chunks * columns) fine p.x p.y → s < site.stripe.rows * site.stripe.columns
    → HasHeight site (s / site.stripe.columns) p.z → s % site.stripe.columns ≡ fine % columns → IsOnlyPlace g (first + fine / columns) s p

-- the place of a point by these
pub place_shown : (g : Partition) (n fine s chunks columns first : ℕ) (site : Site) (p : Point) → IsSky g → IsAdmissible p → n < length g.stripes
    → chunks ≡ (stripe_numbered g n).chunks → columns ≡ (stripe_numbered g n).columns → first ≡ chunks_in (take n g.stripes)
    → site ≡ site_numbered g n (fine / columns) → Shows g p fine s chunks columns first site
place_shown g n fine s chunks columns first site p sky ok hn ec em ef es =
    let stripe = stripe_numbered g n in
    let below = chunks_in (take n g.stripes) in
    let here = es ∙ ap (λ m. site_numbered g n (fine / m)) em in
    subst (λ a. Shows g p fine s a columns first site) (sym ec)
    (subst (λ b. Shows g p fine s stripe.chunks b first site) (sym em)
    (subst (λ f. Shows g p fine s stripe.chunks stripe.columns f site) (sym ef)
    (subst (λ at. Shows g p fine s stripe.chunks stripe.columns below at) (sym here)
    (λ hw held hs row column. place_found g n fine s p sky ok hn hw held hs row column))))
