-- In a stripe, each point of its height is in exactly one chunk and in exactly one subchunk.
use Rattle.std.proofs.Common.{◌≡◌, ℕ, ℤ, pos, ◌+◌, ◌*◌, ◌/◌, ◌%◌, ◌≤◌, ◌<◌, ◌+ℤ◌, ◌-ℤ◌, ◌≤ℤ◌, ◌<ℤ◌, arith, ap, subst, sym, nat_abs, true}
use Rattle.std.proofs.lemmas.Int.{ints}
use Rattle.std.proofs.lemmas.Nat.{div-mul-add, mod-mul-add, div-add-mod'}
use Rattle.sky_vector.specs.Points.{Point}
use Rattle.wedge_rules.specs.Wedge.{InWedge}
use Rattle.wedge_rules.proofs.Exactly.{exactly_one_wedge, exactly_one_fine_wedge, fine_lies_in_its_wedge}
use Rattle.sky_rules.specs.Partition.{Stripe, Site}
use Rattle.sky_rules.specs.Bounds.{chunk_bounds, sub_bounds, fine_bounds, height_of, row_start, in_bounds}
use Rattle.sky_rules.specs.Limits.{IsStripe}
use Rattle.sky_rules.proofs.Bounds.{holds_from, holds_to, wedge_from, wedge_to}
use Rattle.sky_rules.proofs.Rows.{start, start_up, start_end, row_at, one_row, row_below, column_below, number_below}
use Rattle.sky_rules.proofs.Sites.{IsSite}

-- a number from 0 on is its size
pub size_of : (z : ℤ) → pos 0 ≤ℤ z → pos (nat_abs z) ≡ z
size_of z h = grind (arith, ints)

-- the height of a site
pub height : (site : Site) → IsSite site → pos (height_of site) ≡ site.end -ℤ site.stripe.z_low
height site is = let high = is.high in size_of (site.end -ℤ site.stripe.z_low) (omega (arith, ints, high))

-- a fine wedge is one of the fine wedges
fine_below : (site : Site) (j : ℕ) → IsSite site → j < site.stripe.columns
    → site.wedge * site.stripe.columns + j < site.stripe.chunks * site.stripe.columns
fine_below site j is h = number_below site.wedge j site.stripe.chunks site.stripe.columns is.wedge h

-- what a substripe and column of a site hold: the row, and the fine wedge
pub record HoldsFine (site : Site) (t j : ℕ) (p : Point) : Type 0 where
  pub low : row_start site t ≤ℤ p.z
  pub high : p.z <ℤ row_start site (t + 1)
  pub wedge : InWedge (site.stripe.chunks * site.stripe.columns) (site.wedge * site.stripe.columns + j) p.x p.y

-- the bounds gives that
pub fine_from : (site : Site) (t j : ℕ) (p : Point) → IsSite site → j < site.stripe.columns → in_bounds (fine_bounds site t j) p ≡ true → HoldsFine site t j p
fine_from site t j p is h held =
    let bounds = holds_from (fine_bounds site t j) p held in
    let high = bounds.high in record {
      low = bounds.low;
      high = omega (arith, ints, high);
      wedge = wedge_from _ _ (row_start site t) (row_start site (t + 1)) p is.stripe.fine (fine_below site j is h) bounds;
    }

-- that gives the bounds
pub fine_to : (site : Site) (t j : ℕ) (p : Point) → IsSite site → j < site.stripe.columns → HoldsFine site t j p → in_bounds (fine_bounds site t j) p ≡ true
fine_to site t j p is h held = holds_to (fine_bounds site t j) p (wedge_to _ _ (row_start site t) (row_start site (t + 1)) p is.stripe.fine (fine_below site j is h) held.low held.high held.wedge)

-- what a chunk holds: its stripe's height, and its wedge
pub record HoldsChunk (site : Site) (p : Point) : Type 0 where
  pub low : site.stripe.z_low ≤ℤ p.z
  pub high : p.z <ℤ site.end
  pub wedge : InWedge site.stripe.chunks site.wedge p.x p.y

-- the bounds gives that
pub chunk_from : (site : Site) (p : Point) → IsSite site → in_bounds (chunk_bounds site) p ≡ true → HoldsChunk site p
chunk_from site p is held =
    let bounds = holds_from (chunk_bounds site) p held in
    let high = bounds.high in record {
      low = bounds.low;
      high = omega (arith, ints, high);
      wedge = wedge_from _ _ site.stripe.z_low site.end p is.stripe.chunks is.wedge bounds;
    }

-- that gives the bounds
pub chunk_to : (site : Site) (p : Point) → IsSite site → HoldsChunk site p → in_bounds (chunk_bounds site) p ≡ true
chunk_to site p is held = holds_to (chunk_bounds site) p (wedge_to _ _ site.stripe.z_low site.end p is.stripe.chunks is.wedge held.low held.high held.wedge)

-- what a substripe and column hold, the chunk holds
fine_in_chunk : (site : Site) (t j : ℕ) (p : Point) → IsSite site → t < site.stripe.rows → j < site.stripe.columns → HoldsFine site t j p → HoldsChunk site p
fine_in_chunk site t j p is ht hj held =
    let h = height_of site in
    let rows = site.stripe.rows in
    let some = is.stripe.some_rows in
    let tall = height site is in
    let up = start_up h rows (t + 1) rows some (omega (arith, ht)) in
    let end = start_end h rows some in
    let low = held.low in
    let high = held.high in record {
      low = omega (arith, ints, low);
      high = omega (arith, ints, high, up, end, tall);
      wedge = fine_lies_in_its_wedge site.stripe.chunks site.stripe.columns site.wedge j p.x p.y is.stripe.chunks is.wedge hj held.wedge;
    }

-- what a subchunk holds, its chunk holds
pub sub_in_chunk : (site : Site) (s : ℕ) (p : Point) → IsSite site → s < site.stripe.rows * site.stripe.columns
    → in_bounds (sub_bounds site s) p ≡ true → HoldsChunk site p
sub_in_chunk site s p is h held =
    let some = is.stripe.some_columns in
    let t = s / site.stripe.columns in
    let j = s % site.stripe.columns in
    let hj : j < site.stripe.columns = column_below s site.stripe.columns some in
    fine_in_chunk site t j p is (row_below s site.stripe.rows site.stripe.columns some h) hj (fine_from site t j p is hj held)

-- the site of wedge w of a stripe
abbrev pub site_at : Stripe → ℤ → ℕ → Site
site_at s end w = record { stripe = s; end = end; wedge = w }

-- The only place of a point in a stripe: wedge w, and subchunk i of it.
pub record OnlyIn (s : Stripe) (end : ℤ) (w i : ℕ) (p : Point) : Type 0 where
  pub chunk_there : w < s.chunks
  pub sub_there : i < s.rows * s.columns
  pub in_its_chunk : in_bounds (chunk_bounds (site_at s end w)) p ≡ true
  pub in_its_sub : in_bounds (sub_bounds (site_at s end w) i) p ≡ true
  pub no_other_chunk : (v : ℕ) → v < s.chunks → in_bounds (chunk_bounds (site_at s end v)) p ≡ true → v ≡ w
  pub no_other_sub : (v k : ℕ) → v < s.chunks → k < s.rows * s.columns → in_bounds (sub_bounds (site_at s end v) k) p ≡ true → (v ≡ w) × (k ≡ i)

-- a stripe within the limits, and its end
pub record IsEnded (s : Stripe) (end : ℤ) : Type 0 where
  pub stripe : IsStripe s
  pub high : (s.z_low +ℤ pos 64) ≤ℤ end

-- each wedge of it has a site within the limits
pub site_ended : (s : Stripe) (end : ℤ) (w : ℕ) → IsEnded s end → w < s.chunks → IsSite (site_at s end w)
site_ended s end w is h = record { stripe = is.stripe; high = is.high; wedge = h }

-- the height of a point above a stripe's bound is in a row where the row's z holds it
row_from : (low z : ℤ) (d n : ℕ) → pos d ≡ z -ℤ low → (low +ℤ pos n) ≤ℤ z → n ≤ d
row_from low z d n e h = omega (arith, ints, e, h)

-- and below the row that begins above it
row_short : (low z : ℤ) (d n : ℕ) → pos d ≡ z -ℤ low → z <ℤ (low +ℤ pos n) → d < n
row_short low z d n e h = omega (arith, ints, e, h)

-- the parts of a subchunk's number make the number
parts_of : (s columns t j : ℕ) → s / columns ≡ t → s % columns ≡ j → s ≡ t * columns + j
parts_of s columns t j e f =
    let whole = div-add-mod' s columns in
    let rows : s / columns * columns ≡ t * columns = ap (λ n. n * columns) e in omega (arith, whole, rows, f)

-- the bounds of a subchunk whose number is that of a row and a column
pub sub_at : (site : Site) (t j : ℕ) (p : Point) → j < site.stripe.columns
    → in_bounds (fine_bounds site t j) p ≡ true → in_bounds (sub_bounds site (t * site.stripe.columns + j)) p ≡ true
sub_at site t j p h held =
    let row = div-mul-add t site.stripe.columns j h in
    let column = mod-mul-add t site.stripe.columns j h in
    subst (λ n. in_bounds (fine_bounds site n ((t * site.stripe.columns + j) % site.stripe.columns)) p ≡ true) (sym row)
    (subst (λ n. in_bounds (fine_bounds site t n) p ≡ true) (sym column) held)

-- each point of a stripe's height has its only place there
pub only_in : (s : Stripe) (end : ℤ) (p : Point) → IsEnded s end → s.z_low ≤ℤ p.z → p.z <ℤ end → (w : ℕ) × ((i : ℕ) × OnlyIn s end w i p)
only_in s end p is lo hi =
    let m = s.columns in
    let some = is.stripe.some_columns in
    let fine = exactly_one_fine_wedge s.chunks m p.x p.y is.stripe.chunks some is.stripe.fine in
    let one = exactly_one_wedge s.chunks p.x p.y is.stripe.chunks in
    let w = fine.0 in
    let j = fine.1 in
    let hw = fine.2 in
    let hj = fine.3 in
    let site = site_at s end w in
    let good = site_ended s end w is hw in
    let h = height_of site in
    let tall = height site good in
    let d = nat_abs (p.z -ℤ s.z_low) in
    let above = size_of (p.z -ℤ s.z_low) (omega (arith, ints, lo)) in
    let row = row_at h s.rows d is.stripe.some_rows (omega (arith, ints, above, tall, hi)) in
    let t = row.0 in
    let ht = row.1 in
    let low = row.2 in
    let high = row.3 in
    let held : HoldsFine site t j p = record { low = omega (arith, ints, above, low); high = omega (arith, ints, above, high); wedge = fine.5 } in
    let only_chunk : (v : ℕ) → v < s.chunks → in_bounds (chunk_bounds (site_at s end v)) p ≡ true → v ≡ w = λ v hv in_v.
    let mine = one.3 w hw fine.4 in
    let other = one.3 v hv (chunk_from (site_at s end v) p (site_ended s end v is hv) in_v).wedge in omega (arith, mine, other) in (
      w,
      (
        t * m + j,
        record {
          chunk_there = hw;
          sub_there = number_below t j s.rows m ht hj;
          in_its_chunk = chunk_to site p good (record { low = lo; high = hi; wedge = fine.4 });
          in_its_sub = sub_at site t j p hj (fine_to site t j p good hj held);
          no_other_chunk = only_chunk;
          no_other_sub = λ v k hv hk in_v.
              let hc : k % m < m = column_below k m some in
              let found = fine_from (site_at s end v) (k / m) (k % m) p (site_ended s end v is hv) hc in_v in
              let same = fine.6 v (k % m) hv hc found.wedge in
              let same_row = one_row h s.rows d (k / m) t is.stripe.some_rows (row_from s.z_low p.z d (start h s.rows (k / m)) above found.low) (row_short s.z_low p.z d (start h s.rows (k / m + 1)) above found.high) low high in
              (same.0, parts_of k m t j same_row same.1);
        },
      ),
    )

-- a row and a fine wedge that hold a point name its chunk and its subchunk
pub place_by_parts : (s : Stripe) (end : ℤ) (w t j : ℕ) (p : Point) → IsEnded s end → w < s.chunks → t < s.rows → j < s.columns
    → HoldsFine (site_at s end w) t j p
    → (in_bounds (chunk_bounds (site_at s end w)) p ≡ true) × (in_bounds (sub_bounds (site_at s end w) (t * s.columns + j)) p ≡ true)
place_by_parts s end w t j p is hw ht hj held =
    let site = site_at s end w in
    let good = site_ended s end w is hw in
    (chunk_to site p good (fine_in_chunk site t j p good ht hj held), sub_at site t j p hj (fine_to site t j p good hj held))
