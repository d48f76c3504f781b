-- Heights with their places as single numbers: sorted, the numbers give the places in the order of the heights.
use Rattle.std.proofs.Common.{◌≡◌, ◌∙◌, sym, ap, subst, refl, ℕ, ◌+◌, ◌*◌, ◌<◌, ◌≤◌, arith, List, [], ◌∷◌, ◌++◌, length, map, get_or, ℤ, pos, neg_ℤ, ◌+ℤ◌, ◌≤ℤ◌}
use Rattle.std.specs.Prelude.{All, unsigned_abs}
use Rattle.std.specs.List.{AllByRecursion as Each}
use Rattle.std.specs.List.Sorted.{IsNonDecreasing, IsPermutation}
use Rattle.std.proofs.lemmas.List.{length-map, get_or-map}
use Rattle.std.proofs.lemmas.List.Elements.{All-append, All-from_recursion, All-get_or, recursion_from_All}
use Rattle.std.proofs.lemmas.List.Sorted.{All-permutation, IsPermutation-map}
use Rattle.std.proofs.lemmas.Nat.{mod_low}
use Rattle.std.proofs.lemmas.Int.{ints}
use Rattle.sky_vector.specs.Points.{IsWithin}
use Rattle.sky_vector.specs.declared.limits.TheConstants.{PART_MOST}
use Rattle.table_rules.specs.declared.limits.TheConstants.{ROWS_MOST}
use Rattle.sky_row.specs.Keys.{place_in}
use Rattle.near_join.specs.Strips.{height_in, word, words_of}
use Rattle.near_join.specs.Windows.{Ascend}

place_of_word : (z : ℤ) (place : ℕ) → place < ROWS_MOST → place_in (word z place) ≡ place
place_of_word z place low = mod_low (unsigned_abs (z +ℤ pos PART_MOST)) 22 place low

-- the places of words are the places
places_of_words : (zs : List ℤ) (places : List ℕ) → length zs ≤ ROWS_MOST → Each (λ p. p < length zs) places → map place_in (words_of zs places) ≡ places
places_of_words zs [] few h = refl
places_of_words zs (p ∷ places) few h =
    let low : p < length zs = h.0 in
    ap (λ q. q ∷ map place_in (words_of zs places)) (place_of_word (height_in zs p) p (omega (arith, low, few)))
    ∙ ap (λ l. p ∷ l) (places_of_words zs places few h.1)

both_there : (zs : List ℤ) (own overlap : List ℕ) → All (λ p. p < length zs) own → All (λ p. p < length zs) overlap → All (λ p. p < length zs) (own ++ overlap)
both_there zs own overlap h k = All-append (λ p. p < length zs) own overlap h k

-- the places of sorted words are the places in another order
pub moved_places : (zs : List ℤ) (own overlap words places : List ℕ) → length zs ≤ ROWS_MOST
    → All (λ p. p < length zs) own → All (λ p. p < length zs) overlap
    → IsPermutation (words_of zs (own ++ overlap)) words → places ≡ map place_in words → IsPermutation (own ++ overlap) places
moved_places zs own overlap words places few h k moved is =
    let there = recursion_from_All (λ p. p < length zs) (own ++ overlap) (both_there zs own overlap h k) in
    subst (IsPermutation (own ++ overlap)) (sym is)
    (subst (λ l. IsPermutation l (map place_in words)) (places_of_words zs (own ++ overlap) few there) (IsPermutation-map place_in (words_of zs (own ++ overlap)) words moved))

-- The number is the word of the height at its place.
record IsWordOf (zs : List ℤ) (w : ℕ) : Type 0 where
  there : place_in w < length zs
  is : w ≡ word (height_in zs (place_in w)) (place_in w)

each_word : (zs : List ℤ) (places : List ℕ) → length zs ≤ ROWS_MOST → Each (λ p. p < length zs) places → Each (IsWordOf zs) (words_of zs places)
each_word zs [] few h = tt
each_word zs (p ∷ places) few h =
    let low : p < length zs = h.0 in
    let same : place_in (word (height_in zs p) p) ≡ p = place_of_word (height_in zs p) p (omega (arith, low, few)) in
    (record { there = omega (arith, same, low); is = ap (λ q. word (height_in zs q) q) (sym same) }, each_word zs places few h.1)

in_order_by : (a b : ℤ) (m n p q : ℕ) → m ≡ unsigned_abs (a +ℤ pos PART_MOST) → n ≡ unsigned_abs (b +ℤ pos PART_MOST)
    → neg_ℤ (pos PART_MOST) ≤ℤ a → neg_ℤ (pos PART_MOST) ≤ℤ b → p < ROWS_MOST → q < ROWS_MOST
    → m * ROWS_MOST + p ≤ n * ROWS_MOST + q → a ≤ℤ b
in_order_by a b m n p q is_a is_b low_a low_b low_p low_q le = grind (arith, ints)

-- of two words the lesser has the lesser height
no_above : (a b : ℤ) (p q : ℕ) → IsWithin a → IsWithin b → p < ROWS_MOST → q < ROWS_MOST → word a p ≤ word b q → a ≤ℤ b
no_above a b p q low_a low_b low_p low_q le = in_order_by a b _ _ p q refl refl low_a.0 low_b.0 low_p low_q le

-- the heights at the places of sorted words ascend
pub heights_rise : (zs : List ℤ) (own overlap words places : List ℕ) → length zs ≤ ROWS_MOST → All IsWithin zs
    → All (λ p. p < length zs) own → All (λ p. p < length zs) overlap
    → IsPermutation (words_of zs (own ++ overlap)) words → IsNonDecreasing words → places ≡ map place_in words → Ascend (map (height_in zs) places)
heights_rise zs own overlap words places few within h k moved up is =
    let there = recursion_from_All (λ p. p < length zs) (own ++ overlap) (both_there zs own overlap h k) in
    let each : All (IsWordOf zs) words =
    All-permutation (IsWordOf zs) (words_of zs (own ++ overlap)) words moved (All-from_recursion (IsWordOf zs) (words_of zs (own ++ overlap)) (each_word zs (own ++ overlap) few there)) in
    λ i j d l m.
    let long_places = length-map places (height_in zs) in
    let long_words = ap length is ∙ length-map words place_in in
    let high : j < length words = omega (arith, m, long_places, long_words) in
    let low : i < length words = omega (arith, l, high) in
    let a = each i 0 low in
    let b = each j 0 high in
    let first : get_or (map (height_in zs) places) i d ≡ height_in zs (place_in (get_or words i 0)) =
    get_or-map (height_in zs) places i 0 d (omega (arith, low, long_words))
    ∙ ap (height_in zs) (ap (λ l. get_or l i 0) is ∙ get_or-map place_in words i 0 0 low) in
    let second : get_or (map (height_in zs) places) j d ≡ height_in zs (place_in (get_or words j 0)) =
    get_or-map (height_in zs) places j 0 d (omega (arith, high, long_words))
    ∙ ap (height_in zs) (ap (λ l. get_or l j 0) is ∙ get_or-map place_in words j 0 0 high) in
    let le = up i j 0 (omega (arith, l)) high in
    rw (first, second) (
    no_above (height_in zs (place_in (get_or words i 0))) (height_in zs (place_in (get_or words j 0))) (place_in (get_or words i 0)) (place_in (get_or words j 0))
    (All-get_or IsWithin zs (place_in (get_or words i 0)) (pos 0) a.there within) (All-get_or IsWithin zs (place_in (get_or words j 0)) (pos 0) b.there within)
    (let t = a.there in omega (arith, t, few)) (let t = b.there in omega (arith, t, few)) (le_of _ _ _ _ a.is b.is le))
  where
    le_of : (x y u v : ℕ) → x ≡ u → y ≡ v → x ≤ y → u ≤ v
    le_of x y u v a b le = omega (arith, a, b, le)
