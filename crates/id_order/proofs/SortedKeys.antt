-- Keys of ids in ascending order: the least place behind an equal id is that of the first repeat.
use Rattle.std.proofs.Common.{ap, sym, subst, ⊎_elim, ◌∙◌, ◌≡◌, ℕ, ◌+◌, ◌-◌, ◌^◌, ◌<◌, ◌≤◌, arith, eqb, true, List}
use Rattle.std.proofs.Common.{length, get_or, take, Option, None, Some, ℤ, pos, w64, FitsSigned, to_z, length-take}
use Rattle.std.proofs.Common.{[], ◌∷◌, ◌++◌, IfNone, IfSome, below_more}
use Rattle.std.specs.Int.{cast_unsigned}
use Rattle.std.specs.List.{All, Contains, IsDistinct, list_any}
use Rattle.std.specs.List.Sorted.{IsNonDecreasing, IsPermutation, IsStrictlyIncreasing, IsSorted}
use Rattle.std.specs.Ordering.{int_eq, nat_cmp}
use Rattle.std.proofs.lemmas.List.Sorted.{All-permutation, Contains-permutation, IsNonDecreasingBy-from_sort}
use Rattle.std.proofs.lemmas.List.Folds.{list_any_at}
use Rattle.std.proofs.lemmas.List.{get_or-take, get_or_append_left, get_or_default}
use Rattle.std.proofs.Math.Seq.{get_or-append_seam}
use Rattle.std.proofs.lemmas.Grind.{get_or_default_zero}
use Rattle.std.proofs.lemmas.Bool.{cases_lt, ne_eqb}
use Rattle.std.proofs.lemmas.Bool.Decides.{Decides-int_eq}
use Rattle.std.proofs.lemmas.Map.Made.{IsDistinct-from_AllPairs}
use Rattle.std.proofs.lemmas.Int.{ints, to_z-of_z}
use Rattle.std.proofs.lemmas.Map.Keys.{IsDistinct-from_apart, IsDistinct-IsPermutation}
use Rattle.std.proofs.lemmas.Map.Keys.{IsStrictlyIncreasing-from_distinct}
use Rattle.std.proofs.lemmas.Nat.{shr_high, mod_low}
use Rattle.table_rules.specs.Repeats.{IsFirstRepeat}
use Rattle.id_order.specs.Keys.{IsFollowed, IsLeast, IsLeastSecond}
use Rattle.sky_row.specs.Keys.{AreKeys, AreSortedKeys, id_bits, key, place_in}
use Rattle.sky_row.proofs.Keys.{IsKeyOf, bits_of_key, own_key, place_at, place_of_key}
use Rattle.table_rules.specs.declared.limits.TheConstants.{ROWS_MOST}

-- ---- one key

-- ids of 64 bits are equal where their bits are
one_id : (a b : ℤ) → FitsSigned w64 a → FitsSigned w64 b → cast_unsigned w64 a ≡ cast_unsigned w64 b → a ≡ b
one_id a b fits fits_b same = sym (to_z-of_z w64 a fits) ∙ (ap (λ n. to_z w64 n) same ∙ to_z-of_z w64 b fits_b)

-- of two keys of one id, the lesser has the lesser place
places_rise : (a b : ℕ) → a < b → id_bits a ≡ id_bits b → place_in a < place_in b
places_rise a b low same = omega arith

-- a key between two of one id has that id
between : (a b c : ℕ) → a ≤ b → b ≤ c → id_bits a ≡ id_bits c → id_bits b ≡ id_bits c
between a b c low high same = omega arith

-- ---- what the keys of ids are

-- keys of two places are two
other_places : (a b : ℕ) → place_in a < place_in b → a ≡ b → ⊥
other_places a b low same = omega arith

apart_keys : (ids : List ℤ) (keys : List ℕ) → length ids ≤ ROWS_MOST → AreKeys ids keys → IsDistinct eqb keys
apart_keys ids keys few are = IsDistinct-from_apart eqb keys (λ i j d low within.
    let first : place_in (get_or keys i d) ≡ i = ap place_in (get_or_default_zero keys i d (omega arith))
    ∙ place_at ids keys few are i (omega (arith, are.count)) in
    let second : place_in (get_or keys j d) ≡ j = ap place_in (get_or_default_zero keys j d within)
    ∙ place_at ids keys few are j (omega (arith, are.count)) in
    ne_eqb _ _ (other_places (get_or keys i d) (get_or keys j d) (omega (arith, first, second, low))))

-- ---- in ascending order

same_both_ways : (a b : ℕ) → eqb a b ≡ eqb b a
same_both_ways a b = grind arith

rising : (ids : List ℤ) (sorted : List ℕ) → length ids ≤ ROWS_MOST → AreSortedKeys ids sorted → IsStrictlyIncreasing sorted
rising ids sorted few are = IsStrictlyIncreasing-from_distinct sorted are.ascend
    (IsDistinct-IsPermutation eqb same_both_ways are.keys sorted are.moved (apart_keys ids are.keys few are.are))

-- Where a key stands.
record Stands (sorted : List ℕ) (k : ℕ) : Type 0 where
  at : ℕ
  within : at < length sorted
  is : get_or sorted at 0 ≡ k

-- the key of each place is there
stands : (ids : List ℤ) (sorted : List ℕ) → AreSortedKeys ids sorted → (p : ℕ) → p < length ids
    → Stands sorted (key (get_or ids p (pos 0)) p)
stands ids sorted are p low =
    let k = key (get_or ids p (pos 0)) p in
    let within : p < length are.keys = omega (arith, are.are.count) in
    let there : Contains are.keys k = (p, within, get_or_default_zero are.keys p k within ∙ are.are.each p low) in
    let found = Contains-permutation are.keys sorted k are.moved there in
    record { at = found.0; within = found.1; is = sym (get_or_default_zero sorted found.0 k found.1) ∙ found.2 }

-- A key of this place stands behind one of the same id.
record IsSecond (sorted : List ℕ) (place : ℕ) : Type 0 where
  at : ℕ
  within : at + 1 < length sorted
  followed : IsFollowed sorted at
  is : place_in (get_or sorted (at + 1) 0) ≡ place

-- the keys of one id at two places, and the key in front of the second
in_front : (sorted : List ℕ) (a b : ℕ) → IsNonDecreasing sorted → a < length sorted → b < length sorted
    → id_bits (get_or sorted a 0) ≡ id_bits (get_or sorted b 0)
    → place_in (get_or sorted a 0) < place_in (get_or sorted b 0) → IsSecond sorted (place_in (get_or sorted b 0))
in_front sorted a b up first second same low = ⊎_elim
    (λ before.
    let e : b - 1 + 1 ≡ b = omega arith in
    let near : id_bits (get_or sorted (b - 1) 0) ≡ id_bits (get_or sorted b 0) =
    between _ _ _ (up a (b - 1) 0 (omega arith) (omega arith)) (up (b - 1) b 0 (omega arith) second) same in
    record {
      at = b - 1;
      within = omega arith;
      followed = near ∙ ap (λ k. id_bits (get_or sorted k 0)) (sym e);
      is = ap (λ k. place_in (get_or sorted k 0)) e;
    })
    (λ behind. absurd (not_behind _ _ (up b a 0 behind first) same low))
    (cases_lt a b)
  where
    not_behind : (x y : ℕ) → y ≤ x → id_bits x ≡ id_bits y → place_in x < place_in y → ⊥
    not_behind x y le same low = omega arith

-- each place whose id stands at an earlier one is that of a key behind one of the same id
second_of : (ids : List ℤ) (sorted : List ℕ) → length ids ≤ ROWS_MOST → AreSortedKeys ids sorted → (p q : ℕ) → p < q
    → q < length ids → get_or ids p (pos 0) ≡ get_or ids q (pos 0) → IsSecond sorted q
second_of ids sorted few are p q low within same =
    let early : p < ROWS_MOST = omega (arith, few) in
    let late : q < ROWS_MOST = omega (arith, few) in
    let a = stands ids sorted are p (omega arith) in
    let b = stands ids sorted are q within in
    let first : place_in (get_or sorted a.at 0) ≡ p = ap place_in a.is ∙ place_of_key (get_or ids p (pos 0)) p early in
    let second : place_in (get_or sorted b.at 0) ≡ q = ap place_in b.is ∙ place_of_key (get_or ids q (pos 0)) q late in
    let one : id_bits (get_or sorted a.at 0) ≡ id_bits (get_or sorted b.at 0) =
    (ap id_bits a.is ∙ bits_of_key (get_or ids p (pos 0)) p early)
    ∙ (ap (cast_unsigned w64) same ∙ sym (ap id_bits b.is ∙ bits_of_key (get_or ids q (pos 0)) q late)) in
    subst (IsSecond sorted) second (in_front sorted a.at b.at are.ascend a.within b.within one
    (omega (arith, first, second, low)))

-- The id at this place is one of those before it.
record IsRepeat (ids : List ℤ) (place : ℕ) : Type 0 where
  there : place < length ids
  again : list_any (int_eq (get_or ids place (pos 0))) (take place ids) ≡ true

equal_ids : (x y : ℤ) → x ≡ y → int_eq y x ≡ true
equal_ids x y same = grind (arith, ints)

repeats : (ids : List ℤ) (p q : ℕ) → p < q → q < length ids → get_or ids p (pos 0) ≡ get_or ids q (pos 0)
    → IsRepeat ids q
repeats ids p q low within same = record {
  there = within;
  again = list_any_at (int_eq (get_or ids q (pos 0))) (take q ids) p (pos 0)
      (omega (arith, length-take q ids, low, within)) (equal_ids _ _ (get_or-take q ids p (pos 0) low ∙ same));
}

bits_in : (ids : List ℤ) (k : ℕ) → length ids ≤ ROWS_MOST → IsKeyOf ids k
    → id_bits k ≡ cast_unsigned w64 (get_or ids (place_in k) (pos 0))
bits_in ids k few own =
    ap id_bits own.1 ∙ bits_of_key (get_or ids (place_in k) (pos 0)) (place_in k) (omega (arith, few, own.0))

-- the place of a key behind one of the same id is that of an id that stands at an earlier one
repeat_of : (ids : List ℤ) (sorted : List ℕ) → length ids ≤ ROWS_MOST → AreSortedKeys ids sorted → (at : ℕ)
    → at + 1 < length sorted → IsFollowed sorted at → IsRepeat ids (place_in (get_or sorted (at + 1) 0))
repeat_of ids sorted few are at within followed =
    let a = own_key ids sorted few are at 0 (omega arith) in
    let b = own_key ids sorted few are (at + 1) 0 within in
    let low = places_rise _ _ (rising ids sorted few are at within) followed in
    let bits = sym (bits_in ids _ few a) ∙ (followed ∙ bits_in ids _ few b) in
    repeats ids _ _ low b.0 (one_id _ _ (are.are.fits _ a.0) (are.are.fits _ b.0) bits)

-- where no key stands behind one of the same id, no two ids are equal
pub none_repeats : (ids : List ℤ) (sorted : List ℕ) → length ids ≤ ROWS_MOST → AreSortedKeys ids sorted
    → IsLeast sorted (length sorted) None → IsDistinct int_eq ids
none_repeats ids sorted few are none = IsDistinct-from_AllPairs Decides-int_eq ids (λ i j d low within same.
    let one = get_or_default ids i (pos 0) d (omega arith) ∙ (same ∙ get_or_default ids j d (pos 0) within) in
    let second = second_of ids sorted few are i j low within one in
    none second.at second.within second.followed)

past_least : (least q n : ℕ) → least ≤ n → n ≡ q → q < least → ⊥
past_least least q n low same past = omega arith

-- the least place of a key that stands behind one of the same id is that of the first repeat
pub first_repeats : (ids : List ℤ) (sorted : List ℕ) (place : ℕ) → length ids ≤ ROWS_MOST → AreSortedKeys ids sorted
    → IsLeastSecond sorted (length sorted) place → IsFirstRepeat ids place
first_repeats ids sorted place few are first =
    let repeat : IsRepeat ids place = subst (IsRepeat ids) (sym first.is)
    (repeat_of ids sorted few are first.at first.within first.followed) in
    record {
      there = repeat.there;
      again = repeat.again;
      apart = IsDistinct-from_AllPairs Decides-int_eq (take place ids) (λ i j d low within same.
          let early : j < place = omega (arith, within, length-take place ids) in
          let there : j < length ids = omega (arith, early, repeat.there) in
          let one = get_or_default ids i (pos 0) d (omega arith)
          ∙ (sym (get_or-take place ids i d (omega arith)) ∙ (same ∙ (get_or-take place ids j d early
          ∙ get_or_default ids j d (pos 0) there))) in
          let second = second_of ids sorted few are i j low there one in
          past_least place j (place_in (get_or sorted (second.at + 1) 0))
          (first.least second.at second.within second.followed) second.is early);
    }

-- what least_second told is what first_repeat tells
pub told_none : (ids : List ℤ) (sorted : List ℕ) (found : Option ℕ) → length ids ≤ ROWS_MOST → AreSortedKeys ids sorted
    → IsLeast sorted (length sorted) found → IfNone found (IsDistinct int_eq ids)
told_none ids sorted None few are none = none_repeats ids sorted few are none
told_none ids sorted (Some place) few are first = tt

pub told_some : (ids : List ℤ) (sorted : List ℕ) (found : Option ℕ) → length ids ≤ ROWS_MOST → AreSortedKeys ids sorted
    → IsLeast sorted (length sorted) found → IfSome found (IsFirstRepeat ids)
told_some ids sorted None few are none = tt
told_some ids sorted (Some place) few are first = first_repeats ids sorted place few are first
