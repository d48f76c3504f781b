-- The window of a height: by the root of the limit, and by two searches.
use Rattle.std.proofs.Common.{◌≡◌, ℕ, suc, ◌+◌, ◌*◌, ◌<◌, ◌≤◌, ℤ, pos, negsuc, ◌+ℤ◌, ◌-ℤ◌, ◌≤ℤ◌, ◌<ℤ◌, neg_ℤ, unsigned_abs, int_le, int_lt, Bool, true, false, ◌&&◌, ◌⊎◌, inl, inr, List, length, slice_index_or, refl, sym, subst, ◌∙◌, arith, FitsSigned, w64, to_z, of_z}
use Rattle.std.specs.Int.{IsIsqrt}
use Rattle.std.specs.List.{AllWithin}
use Rattle.std.specs.List.Sorted.{IsPartitionedBy, IsPartitionPoint}
use Rattle.std.proofs.Math.Nat.{mul-le-mul}
use Rattle.std.proofs.lemmas.Bool.{cases_lt, cases_order, and_parts, and_from, and_left, and_right}
use Rattle.std.proofs.lemmas.Int.{ints}
use Rattle.std.proofs.lemmas.List.{get_or_default}
use Rattle.wedge_rules.proofs.Tests.{le_from, le_to, lt_from, lt_to}
use Rattle.near_join.specs.Windows.{Ascend, is_within, IsWindow, IsRoot, IsBetween}

same_test : (a b : Bool) → (a ≡ true → b ≡ true) → (b ≡ true → a ≡ true) → a ≡ b
same_test true true f h = refl
same_test true false f h = sym (f refl)
same_test false true f h = h refl
same_test false false f h = refl

-- a natural's square is below the square of one more than the root only where it is at most the root
below_next : (m n most : ℕ) → most < (n + 1) * (n + 1) → m * m ≤ most → m ≤ n
below_next m n most l h = by (cases_lt n m)
  where
    by : (n < m) ⊎ (m ≤ n) → m ≤ n
    by (inl k) =
        let up : n + 1 ≤ m = omega arith in
        let squares = mul-le-mul up up in absurd (omega (arith, squares))
    by (inr k) = k

-- the root of a natural, as the root of a limit
natural_root : (n most : ℕ) → n * n ≤ most → most < (n + 1) * (n + 1) → IsRoot (pos most) (pos n)
natural_root n most low high (pos m) = same_test _ _
    (λ h. let l = le_from (pos (m * m)) (pos most) h in
    let small : m ≤ n = below_next m n most high (omega (arith, ints, l)) in
    and_from (int_le (neg_ℤ (pos n)) (pos m)) (int_le (pos m) (pos n)) (le_to (neg_ℤ (pos n)) (pos m) (omega (arith, ints))) (le_to (pos m) (pos n) (omega (arith, ints, small))))
    (λ h. let l = le_from (pos m) (pos n) (and_parts (int_le (neg_ℤ (pos n)) (pos m)) (int_le (pos m) (pos n)) h).1 in
    let small : m ≤ n = omega (arith, ints, l) in
    let squares = mul-le-mul small small in le_to (pos (m * m)) (pos most) (omega (arith, ints, squares, low)))
natural_root n most low high (negsuc m) = same_test _ _
    (λ h. let l = le_from (pos (suc m * suc m)) (pos most) h in
    let small : suc m ≤ n = below_next (suc m) n most high (omega (arith, ints, l)) in
    and_from (int_le (neg_ℤ (pos n)) (negsuc m)) (int_le (negsuc m) (pos n)) (le_to (neg_ℤ (pos n)) (negsuc m) (omega (arith, ints, small))) (le_to (negsuc m) (pos n) (omega (arith, ints))))
    (λ h. let l = le_from (neg_ℤ (pos n)) (negsuc m) (and_parts (int_le (neg_ℤ (pos n)) (negsuc m)) (int_le (negsuc m) (pos n)) h).0 in
    let small : suc m ≤ n = omega (arith, ints, l) in
    let squares = mul-le-mul small small in le_to (pos (suc m * suc m)) (pos most) (omega (arith, ints, squares, low)))

-- the root that is computed is the root of the limit
pub root_is : (limit root : ℤ) → pos 0 ≤ℤ limit → IsIsqrt limit root → IsRoot limit root
root_is limit root up is =
    let e : limit ≡ pos (unsigned_abs limit) = omega (arith, ints) in
    subst (λ l. IsRoot l root) (sym e) (subst (IsRoot (pos (unsigned_abs limit))) (sym is.1) (natural_root is.0 (unsigned_abs limit) is.2 is.3))

-- a limit below 0 has the root -1
pub no_root : (limit : ℤ) → limit <ℤ pos 0 → IsRoot limit (negsuc 0)
no_root limit low (pos m) = grind (arith, ints)
no_root limit low (negsuc m) = grind (arith, ints)

-- the two bounds of a window
pub moved : (z limit root a : ℤ) → IsRoot limit root → is_within z limit a ≡ (int_le (z -ℤ root) a && int_le a (z +ℤ root))
moved z limit root a is =
    is (a -ℤ z) ∙ same_test _ _
    (λ h. let p = and_parts (int_le (neg_ℤ root) (a -ℤ z)) (int_le (a -ℤ z) root) h in
    let low = le_from (neg_ℤ root) (a -ℤ z) p.0 in
    let high = le_from (a -ℤ z) root p.1 in
    and_from (int_le (z -ℤ root) a) (int_le a (z +ℤ root)) (le_to (z -ℤ root) a (omega (arith, ints, low))) (le_to a (z +ℤ root) (omega (arith, ints, high))))
    (λ h. let p = and_parts (int_le (z -ℤ root) a) (int_le a (z +ℤ root)) h in
    let low = le_from (z -ℤ root) a p.0 in
    let high = le_from a (z +ℤ root) p.1 in
    and_from (int_le (neg_ℤ root) (a -ℤ z)) (int_le (a -ℤ z) root) (le_to (neg_ℤ root) (a -ℤ z) (omega (arith, ints, low))) (le_to (a -ℤ z) root (omega (arith, ints, high))))

pub window_is : (zs : List ℤ) (z limit root : ℤ) (from to : ℕ) → IsRoot limit root → IsBetween zs (z -ℤ root) (z +ℤ root) from to → IsWindow zs z limit from to
window_is zs z limit root from to is b = record {
  order = b.order;
  there = b.there;
  below = λ k d l h. moved z limit root (slice_index_or zs k d) is ∙ b.below k d l h;
  inside = λ k d l h. moved z limit root (slice_index_or zs k d) is ∙ b.inside k d l h;
  above = λ k d l h. moved z limit root (slice_index_or zs k d) is ∙ b.above k d l h;
  none = b.none;
}

up_to : (zs : List ℤ) → Ascend zs → (i j : ℕ) (d : ℤ) → i ≤ j → j < length zs → slice_index_or zs i d ≤ℤ slice_index_or zs j d
up_to zs up i j d l h = by (cases_order i j)
  where
    by : (i ≡ j) ⊎ ((i < j) ⊎ (j < i)) → slice_index_or zs i d ≤ℤ slice_index_or zs j d
    by (inl e) = subst (λ k. slice_index_or zs i d ≤ℤ slice_index_or zs k d) e (omega (arith, ints))
    by (inr (inl k)) = up i j d k h
    by (inr (inr k)) = absurd (omega (arith, l, k))

-- the heights below a bound come first
pub below_first : (zs : List ℤ) (low : ℤ) → Ascend zs → IsPartitionedBy (λ a. int_lt a low) zs
below_first zs low up i j d l h e =
    let step = up_to zs up i j d l h in
    let under = lt_from (slice_index_or zs j d) low e in lt_to (slice_index_or zs i d) low (omega (arith, ints, step, under))

-- so do those up to one
pub upto_first : (zs : List ℤ) (high : ℤ) → Ascend zs → IsPartitionedBy (λ a. int_le a high) zs
upto_first zs high up i j d l h e =
    let step = up_to zs up i j d l h in
    let under = le_from (slice_index_or zs j d) high e in le_to (slice_index_or zs i d) high (omega (arith, ints, step, under))

not_below : (low a : ℤ) → int_lt a low ≡ true → int_le low a ≡ false
not_below low a h = grind (arith, ints)

pub at_least : (low a : ℤ) → int_lt a low ≡ false → int_le low a ≡ true
at_least low a h = grind (arith, ints)

-- what two searches find
pub between_is : (zs : List ℤ) (low high : ℤ) (from to : ℕ) → from ≤ length zs → to ≤ length zs
    → IsPartitionPoint (λ a. int_lt a low ≡ true) (λ a. int_lt a low ≡ false) zs from → IsPartitionPoint (λ a. int_le a high ≡ true) (λ a. int_le a high ≡ false) zs to
    → from < to → IsBetween zs low high from to
between_is zs low high from to f t p q l = record {
  order = omega (arith, l);
  there = t;
  below = λ k d a b. and_left (int_le low (slice_index_or zs k d)) (int_le (slice_index_or zs k d) high) (not_below low (slice_index_or zs k d) (p.0 k d a b));
  inside = λ k d a b. and_from (int_le low (slice_index_or zs k d)) (int_le (slice_index_or zs k d) high) (at_least low (slice_index_or zs k d) (p.1 k d a (omega (arith, b, t)))) (q.0 k d (omega arith) b);
  above = λ k d a b. and_right (int_le low (slice_index_or zs k d)) (int_le (slice_index_or zs k d) high) (q.1 k d a b);
  none = λ e. absurd (omega (arith, e, l));
}

-- what they find where there is nothing between the bounds
pub nothing_between : (zs : List ℤ) (low high : ℤ) (from to : ℕ)
    → IsPartitionPoint (λ a. int_lt a low ≡ true) (λ a. int_lt a low ≡ false) zs from → IsPartitionPoint (λ a. int_le a high ≡ true) (λ a. int_le a high ≡ false) zs to
    → to ≤ from → IsBetween zs low high 0 0
nothing_between zs low high from to p q l = record {
  order = omega arith;
  there = omega arith;
  below = λ k d a b. absurd (omega (arith, b));
  inside = λ k d a b. absurd (omega (arith, b));
  above = λ k d a b. outside k d b (cases_lt k from);
  none = λ e. refl;
}
  where
    outside : (k : ℕ) (d : ℤ) → k < length zs → (k < from) ⊎ (from ≤ k) → (int_le low (slice_index_or zs k d) && int_le (slice_index_or zs k d) high) ≡ false
    outside k d b (inl m) = and_left (int_le low (slice_index_or zs k d)) (int_le (slice_index_or zs k d) high) (not_below low (slice_index_or zs k d) (p.0 k d (omega arith) m))
    outside k d b (inr m) = and_right (int_le low (slice_index_or zs k d)) (int_le (slice_index_or zs k d) high) (q.1 k d (omega (arith, l, m)) b)

-- the root of a limit of 64 bits has at most 32
pub root_small : (limit root : ℤ) → FitsSigned w64 limit → IsIsqrt limit root → root ≤ℤ pos 4294967296
root_small limit root fits is = by (cases_lt 4294967296 is.0)
  where
    by : (4294967296 < is.0) ⊎ (is.0 ≤ 4294967296) → root ≤ℤ pos 4294967296
    by (inl k) =
        let most : 4294967296 ≤ is.0 = omega (arith, k) in
        let squares = mul-le-mul most most in
        let low = is.2 in absurd (omega (arith, ints, squares, low, fits))
    by (inr k) = let e = is.1 in omega (arith, ints, e, k)

pub root_fits : (limit root : ℤ) → FitsSigned w64 limit → IsIsqrt limit root → to_z w64 (of_z w64 root) ≡ root
root_fits limit root fits is =
    let small = root_small limit root fits is in
    let e = is.1 in omega (arith, ints, small, e)

-- ---- a walk from a height

not_upto : (b high : ℤ) → int_lt high b ≡ true → int_le b high ≡ false
not_upto b high h = grind (arith, ints)

-- a height above a bound has only such behind it
pub above_all : (zs : List ℤ) (high : ℤ) (n : ℕ) → Ascend zs → n < length zs → int_lt high (slice_index_or zs n (pos 0)) ≡ true → AllWithin (λ b. int_le b high ≡ false) zs n (length zs)
above_all zs high n up h over =
    λ k d l m. let step : slice_index_or zs n d ≤ℤ slice_index_or zs k d = up_to zs up n k d l m in
    let here : slice_index_or zs n d ≡ slice_index_or zs n (pos 0) = get_or_default zs n d (pos 0) h in
    let large = lt_from high (slice_index_or zs n (pos 0)) over in not_upto (slice_index_or zs k d) high (lt_to high (slice_index_or zs k d) (omega (arith, ints, step, here, large)))
