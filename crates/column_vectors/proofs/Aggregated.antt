-- What values come to, one value more at a time and in two parts, and how large it can be.
use Rattle.std.proofs.Common.{◌≡◌, ◌∙◌, refl, sym, ap, subst, ℕ, zero, suc, ◌+◌, ◌-◌, ◌*◌, ◌^◌, ◌<◌, ◌≤◌, arith, ℤ, pos, ◌+ℤ◌, nat_abs, int_le, Bool, true, false, if◌then◌else◌, List, [], ◌∷◌, ◌++◌, length, length-append, get_or, take, drop, Option, Some, None, option_to_list, slice_range, All}
use Rattle.std.specs.List.{AllByRecursion as Each, flat_map}
use Rattle.std.proofs.Math.Nat.{suc-mul}
use Rattle.std.proofs.lemmas.Nat.{mul-le}
use Rattle.std.proofs.Math.Seq.{take-add}
use Rattle.std.proofs.lemmas.Int.{ints}
use Rattle.std.proofs.lemmas.List.{append-nil, drop-drop}
use Rattle.std.proofs.lemmas.List.Concat.{flat_map-append}
use Rattle.std.proofs.lemmas.List.Edits.{between_more, between_none}
use Rattle.std.proofs.lemmas.List.Elements.{All-drop, All-take, recursion_from_All}
use Rattle.table_rules.specs.declared.limits.TheConstants.{ROWS_MOST}
use Rattle.value_rules.specs.Widths.{IsOfSize}
use Rattle.column_vectors.specs.Aggregates.{AreSummed, IsNoLarger, StaysWithin, greater, joined_all, joined_from, lesser, numbers_between, sum_of}
use Rattle.column_vectors.specs.Lanes.{IsSmall, numbers_of, values_in}
use Rattle.column_vectors.specs.declared.join.TheConstants.{NARROW_MOST, WIDE_MOST}
use Rattle.column_vectors.specs.declared.lane.Lane.{Lane}
use Rattle.column_vectors.proofs.Reading.{value_is, values_count}

-- ---- numbers joined, with one more behind and in two parts

pub joined_append : (op : ℤ → ℤ → ℤ) (z : ℤ) (xs ys : List ℤ) → joined_from op z (xs ++ ys) ≡ joined_from op (joined_from op z xs) ys
joined_append op z [] ys = refl
joined_append op z (x ∷ xs) ys = joined_append op (op z x) xs ys

-- ---- the numbers between places

pub numbers_none : (values : List (Option ℤ)) (from : ℕ) → numbers_between values from from ≡ []
numbers_none values from = ap (flat_map option_to_list) (between_none values from)

pub numbers_more : (values : List (Option ℤ)) (from i : ℕ) → from ≤ i → i < length values
    → numbers_between values from (i + 1) ≡ numbers_between values from i ++ option_to_list (get_or values i None)
numbers_more values from i order low =
    ap (flat_map option_to_list) (between_more values from i None order low)
    ∙ (flat_map-append option_to_list (slice_range values from i) (get_or values i None ∷ [])
    ∙ ap (λ l. numbers_between values from i ++ l) (append-nil (option_to_list (get_or values i None))))

-- one more that is a number
pub number_more : (values : List (Option ℤ)) (from i : ℕ) (z : ℤ) → from ≤ i → i < length values → get_or values i None ≡ Some z
    → numbers_between values from (i + 1) ≡ numbers_between values from i ++ z ∷ []
number_more values from i z order low is =
    numbers_more values from i order low ∙ ap (λ v. numbers_between values from i ++ option_to_list v) is

-- up to a place, and from there on
pub numbers_parted : (values : List (Option ℤ)) (from at to : ℕ) → from ≤ at → at ≤ to → numbers_between values from to ≡ numbers_between values from at ++ numbers_between values at to
numbers_parted values from at to low high =
    ap (flat_map option_to_list)
    (ap (λ n. take n (drop from values)) (omega (arith, low, high))
    ∙ (take-add (at - from) (to - at) (drop from values)
    ∙ ap (λ l. slice_range values from at ++ take (to - at) l) (drop-drop (at - from) from values ∙ ap (λ n. drop n values) (omega (arith, low)))))
    ∙ flat_map-append option_to_list (slice_range values from at) (slice_range values at to)

value_known : (numbers : List ℤ) (known : List Bool) (i : ℕ) → i < length known → get_or known i false ≡ true
    → get_or (values_in numbers known) i None ≡ Some (get_or numbers i (pos 0))
value_known numbers known i low is =
    value_is numbers known i None low ∙ ap (λ b. if b then Some (get_or numbers i (pos 0)) else None) is

value_null : (numbers : List ℤ) (known : List Bool) (i : ℕ) → i < length known → get_or known i false ≡ false
    → get_or (values_in numbers known) i None ≡ None
value_null numbers known i low is =
    value_is numbers known i None low ∙ ap (λ b. if b then Some (get_or numbers i (pos 0)) else None) is

-- one number more, or none where the row has no value
pub known_more : (numbers : List ℤ) (known : List Bool) (from i : ℕ) → from ≤ i → i < length known → get_or known i false ≡ true
    → numbers_between (values_in numbers known) from (i + 1) ≡ numbers_between (values_in numbers known) from i ++ get_or numbers i (pos 0) ∷ []
known_more numbers known from i order low is =
    number_more (values_in numbers known) from i (get_or numbers i (pos 0)) order (omega (arith, low, values_count numbers known)) (value_known numbers known i low is)

pub null_more : (numbers : List ℤ) (known : List Bool) (from i : ℕ) → from ≤ i → i < length known → get_or known i false ≡ false
    → numbers_between (values_in numbers known) from (i + 1) ≡ numbers_between (values_in numbers known) from i
null_more numbers known from i order low is =
    numbers_more (values_in numbers known) from i order (omega (arith, low, values_count numbers known))
    ∙ (ap (λ v. numbers_between (values_in numbers known) from i ++ option_to_list v) (value_null numbers known i low is)
    ∙ append-nil (numbers_between (values_in numbers known) from i))

-- ---- one number more is joined

pub joined_number : (op : ℤ → ℤ → ℤ) (first total : ℤ) (values : List (Option ℤ)) (from i : ℕ) (z : ℤ) → from ≤ i → i < length values → get_or values i None ≡ Some z
    → total ≡ joined_from op first (numbers_between values from i) → op total z ≡ joined_from op first (numbers_between values from (i + 1))
joined_number op first total values from i z order low is before =
    sym (ap (joined_from op first) (number_more values from i z order low is)
    ∙ (joined_append op first (numbers_between values from i) (z ∷ [])
    ∙ ap (λ t. op t z) (sym before)))

pub joined_known : (op : ℤ → ℤ → ℤ) (first total : ℤ) (numbers : List ℤ) (known : List Bool) (from i : ℕ) → from ≤ i → i < length known → get_or known i false ≡ true
    → total ≡ joined_from op first (numbers_between (values_in numbers known) from i)
    → op total (get_or numbers i (pos 0)) ≡ joined_from op first (numbers_between (values_in numbers known) from (i + 1))
joined_known op first total numbers known from i order low is before =
    joined_number op first total (values_in numbers known) from i (get_or numbers i (pos 0)) order (omega (arith, low, values_count numbers known))
    (value_known numbers known i low is) before

pub joined_null : (op : ℤ → ℤ → ℤ) (first total : ℤ) (numbers : List ℤ) (known : List Bool) (from i : ℕ) → from ≤ i → i < length known → get_or known i false ≡ false
    → total ≡ joined_from op first (numbers_between (values_in numbers known) from i)
    → total ≡ joined_from op first (numbers_between (values_in numbers known) from (i + 1))
joined_null op first total numbers known from i order low is before =
    before ∙ ap (joined_from op first) (sym (null_more numbers known from i order low is))

-- what is joined then has the size that all fronts have
pub number_size : (op : ℤ → ℤ → ℤ) (limit : ℕ) (first total : ℤ) (values : List (Option ℤ)) (from i to : ℕ) (z : ℤ) → from ≤ i → i < to → i < length values
    → get_or values i None ≡ Some z → StaysWithin op limit first values from to
    → total ≡ joined_from op first (numbers_between values from i) → nat_abs (op total z) ≤ limit
number_size op limit first total values from i to z order high low is stays before =
    subst (λ z. nat_abs z ≤ limit) (sym (joined_number op first total values from i z order low is before))
    (stays (i + 1) (omega (arith, order)) (omega (arith, high)))

pub known_size : (op : ℤ → ℤ → ℤ) (limit : ℕ) (first total : ℤ) (numbers : List ℤ) (known : List Bool) (from i to : ℕ) → from ≤ i → i < to → i < length known
    → get_or known i false ≡ true → StaysWithin op limit first (values_in numbers known) from to
    → total ≡ joined_from op first (numbers_between (values_in numbers known) from i) → nat_abs (op total (get_or numbers i (pos 0))) ≤ limit
known_size op limit first total numbers known from i to order high low is stays before =
    number_size op limit first total (values_in numbers known) from i to (get_or numbers i (pos 0)) order high (omega (arith, low, values_count numbers known))
    (value_known numbers known i low is) stays before

-- the same by the flag
pub joined_flagged : (op : ℤ → ℤ → ℤ) (first total : ℤ) (numbers : List ℤ) (known : List Bool) (from i : ℕ) (flag : Bool) → from ≤ i → i < length known → get_or known i false ≡ flag
    → total ≡ joined_from op first (numbers_between (values_in numbers known) from i)
    → (if flag then op total (get_or numbers i (pos 0)) else total) ≡ joined_from op first (numbers_between (values_in numbers known) from (i + 1))
joined_flagged op first total numbers known from i true order low is before = joined_known op first total numbers known from i order low is before
joined_flagged op first total numbers known from i false order low is before = joined_null op first total numbers known from i order low is before

-- ---- how many there are

flag_count : (numbers : List ℤ) (known : List Bool) (from i : ℕ) (flag : Bool) → from ≤ i → i < length known → get_or known i false ≡ flag
    → length (numbers_between (values_in numbers known) from (i + 1)) ≡ length (numbers_between (values_in numbers known) from i) + (if flag then 1 else 0)
flag_count numbers known from i true order low is =
    ap length (known_more numbers known from i order low is) ∙ length-append (numbers_between (values_in numbers known) from i) (get_or numbers i (pos 0) ∷ [])
flag_count numbers known from i false order low is = omega (arith, ap length (null_more numbers known from i order low is))

pub count_more : (numbers : List ℤ) (known : List Bool) (from i count : ℕ) → from ≤ i → i < length known
    → count ≡ length (numbers_between (values_in numbers known) from i) → count + (if get_or known i false then 1 else 0) ≡ length (numbers_between (values_in numbers known) from (i + 1))
count_more numbers known from i count order low before =
    ap (λ n. n + (if get_or known i false then 1 else 0)) before ∙ sym (flag_count numbers known from i (get_or known i false) order low refl)

-- ---- how large numbers between places are, and how many

abbrev pub Fits : ℕ → ℤ → Type 0
Fits n z = nat_abs z ≤ n

one_fits : (n : ℕ) (v : Option ℤ) (zs : List ℤ) → IsOfSize n v → Each (Fits n) zs → Each (Fits n) (option_to_list v ++ zs)
one_fits n None zs h k = k
one_fits n (Some z) zs h k = (h, k)

all_fit : (n : ℕ) (values : List (Option ℤ)) → Each (IsOfSize n) values → Each (Fits n) (flat_map option_to_list values)
all_fit n [] h = tt
all_fit n (v ∷ values) h = one_fits n v (flat_map option_to_list values) h.0 (all_fit n values h.1)

pub between_fit : (n : ℕ) (values : List (Option ℤ)) (from to : ℕ) → All (IsOfSize n) values → Each (Fits n) (numbers_between values from to)
between_fit n values from to sized =
    all_fit n (slice_range values from to)
    (recursion_from_All (IsOfSize n) (slice_range values from to) (All-take (IsOfSize n) (to - from) (drop from values) (All-drop (IsOfSize n) from values sized)))

one_few : (v : Option ℤ) → length (option_to_list v) ≤ 1
one_few None = omega arith
one_few (Some z) = omega arith

few : (values : List (Option ℤ)) → length (flat_map option_to_list values) ≤ length values
few [] = omega arith
few (v ∷ values) = omega (arith, length-append (option_to_list v) (flat_map option_to_list values), one_few v, few values)

take_few : {X : Type 0} (n : ℕ) (xs : List X) → length (take n xs) ≤ n
take_few zero xs = omega arith
take_few (suc n) [] = omega arith
take_few (suc n) (x ∷ xs) = omega (arith, take_few n xs)

pub between_few : (values : List (Option ℤ)) (from to : ℕ) → length (numbers_between values from to) ≤ to - from
between_few values from to = omega (arith, few (slice_range values from to), take_few (to - from) (drop from values))

value_fits : (n : ℕ) (b : Bool) (z : ℤ) → nat_abs z ≤ n → IsOfSize n (if b then Some z else None)
value_fits n true z h = h
value_fits n false z h = tt

-- no value of a lane is larger than the lane says
pub lane_fits : (lane : Lane) → IsSmall lane → All (IsOfSize lane.bound) (values_in (numbers_of lane.numbers) lane.known.items)
lane_fits lane small = λ k d low.
    let numbers = numbers_of lane.numbers in
    let known = lane.known.items in
    let there : k < length known = omega (arith, low, values_count numbers known) in
    subst (IsOfSize lane.bound) (sym (value_is numbers known k d there))
    (value_fits lane.bound (get_or known k false) (get_or numbers k (pos 0)) (small.fits k (omega (arith, there, small.masked))))

-- ---- how large they are when they are joined

sum_step : (a b : ℤ) → nat_abs (a +ℤ b) ≤ nat_abs a + nat_abs b
sum_step a b = omega (arith, ints)

sum_size : (n : ℕ) (a : ℤ) (zs : List ℤ) → Each (Fits n) zs → nat_abs (joined_from (λ a b. a +ℤ b) a zs) ≤ nat_abs a + length zs * n
sum_size n a [] h = omega arith
sum_size n a (z ∷ zs) h = omega (arith, sum_step a z, h.0, sum_size n (a +ℤ z) zs h.1, suc-mul (length zs) n)

summed : (n : ℕ) (values : List (Option ℤ)) (from to rows : ℕ) → All (IsOfSize n) values → to - from ≤ rows → nat_abs (sum_of (numbers_between values from to)) ≤ rows * n
summed n values from to rows sized short =
    omega (
      arith,
      sum_size n (pos 0) (numbers_between values from to) (between_fit n values from to sized),
      mul-le (length (numbers_between values from to)) n rows n (omega (arith, between_few values from to, short)) (omega arith),
    )

pub are_summed : (n : ℕ) (values : List (Option ℤ)) (rows : ℕ) → All (IsOfSize n) values → rows * n ≤ NARROW_MOST → AreSummed rows values
are_summed n values rows sized small = λ from to order short. omega (arith, summed n values from to rows sized (omega (arith, short)), small)

pub block_stays : (values : List (Option ℤ)) (rows from to : ℕ) → AreSummed rows values → to ≤ from + rows → StaysWithin (λ a b. a +ℤ b) NARROW_MOST (pos 0) values from to
block_stays values rows from to are short = λ i low high. are from i low (omega (arith, high, short))

pub sum_stays : (n : ℕ) (values : List (Option ℤ)) (from to : ℕ) → All (IsOfSize n) values → n ≤ 2 ^ 100 → to ≤ ROWS_MOST
    → StaysWithin (λ a b. a +ℤ b) WIDE_MOST (pos 0) values from to
sum_stays n values from to sized small few = λ i low high.
    omega (arith, summed n values from i ROWS_MOST sized (omega (arith, high, few)), small)

chosen_size : (op : ℤ → ℤ → ℤ) (n : ℕ) (z : ℤ) (zs : List ℤ) → IsNoLarger op → nat_abs z ≤ n → Each (Fits n) zs → nat_abs (joined_from op z zs) ≤ n
chosen_size op n z [] choice h fits = h
chosen_size op n z (y ∷ ys) choice h fits = chosen_size op n (op z y) ys choice (choice n z y h fits.0) fits.1

pub chosen_stays : (op : ℤ → ℤ → ℤ) (n limit : ℕ) (first : ℤ) (values : List (Option ℤ)) (from to : ℕ) → IsNoLarger op → nat_abs first ≤ n
    → All (IsOfSize n) values → n ≤ limit → StaysWithin op limit first values from to
chosen_stays op n limit first values from to choice h sized small = λ i low high.
    omega (arith, chosen_size op n first (numbers_between values from i) choice h (between_fit n values from i sized), small)

-- the same of the values of a lane
pub lane_stays : (op : ℤ → ℤ → ℤ) (limit : ℕ) (lane : Lane) (first from to : ℕ) → IsNoLarger op → IsSmall lane → first < length lane.known.items → lane.bound ≤ limit
    → StaysWithin op limit (get_or (numbers_of lane.numbers) first (pos 0)) (values_in (numbers_of lane.numbers) lane.known.items) from to
lane_stays op limit lane first from to choice small low h =
    chosen_stays op lane.bound limit (get_or (numbers_of lane.numbers) first (pos 0)) (values_in (numbers_of lane.numbers) lane.known.items) from to choice
    (small.fits first (omega (arith, low, small.masked))) (lane_fits lane small) h

pub lane_summed : (rows : ℕ) (lane : Lane) → IsSmall lane → rows * lane.bound ≤ NARROW_MOST → AreSummed rows (values_in (numbers_of lane.numbers) lane.known.items)
lane_summed rows lane small h = are_summed lane.bound (values_in (numbers_of lane.numbers) lane.known.items) rows (lane_fits lane small) h

pub lane_sum_stays : (lane : Lane) (from to : ℕ) → IsSmall lane → to ≤ ROWS_MOST
    → StaysWithin (λ a b. a +ℤ b) WIDE_MOST (pos 0) (values_in (numbers_of lane.numbers) lane.known.items) from to
lane_sum_stays lane from to small few =
    sum_stays lane.bound (values_in (numbers_of lane.numbers) lane.known.items) from to (lane_fits lane small) small.few few

either : (b : Bool) (n : ℕ) (x y : ℤ) → nat_abs x ≤ n → nat_abs y ≤ n → nat_abs (if b then x else y) ≤ n
either true n x y h k = h
either false n x y h k = k

pub lesser_chooses : IsNoLarger lesser
lesser_chooses = λ n a b h k. either (int_le a b) n a b h k

pub greater_chooses : IsNoLarger greater
greater_chooses = λ n a b h k. either (int_le a b) n b a k h

-- ---- a sum by blocks

-- a sum that begins with a number is that number and the sum
sum_from : (a : ℤ) (zs : List ℤ) → joined_from (λ a b. a +ℤ b) a zs ≡ a +ℤ sum_of zs
sum_from a [] = omega (arith, ints)
sum_from a (z ∷ zs) = omega (arith, ints, sum_from (a +ℤ z) zs, sum_from (pos 0 +ℤ z) zs)

pub sum_more : (values : List (Option ℤ)) (from at to : ℕ) (total part : ℤ) → from ≤ at → at ≤ to → total ≡ sum_of (numbers_between values from at) → part ≡ sum_of (numbers_between values at to)
    → total +ℤ part ≡ sum_of (numbers_between values from to)
sum_more values from at to total part low high before is =
    ap (λ t. t +ℤ part) before
    ∙ (ap (λ t. sum_of (numbers_between values from at) +ℤ t) is
    ∙ sym (ap sum_of (numbers_parted values from at to low high)
    ∙ (joined_append (λ a b. a +ℤ b) (pos 0) (numbers_between values from at) (numbers_between values at to)
    ∙ sum_from (sum_of (numbers_between values from at)) (numbers_between values at to))))

-- ---- the first that is a number

pub first_number : (op : ℤ → ℤ → ℤ) (values : List (Option ℤ)) (from at to : ℕ) (z : ℤ) → from ≤ at → at < to → at < length values → get_or values at None ≡ Some z
    → numbers_between values from at ≡ []
    → Some (joined_from op z (numbers_between values (at + 1) to)) ≡ joined_all op (numbers_between values from to)
first_number op values from at to z low high there is none =
    sym (ap (joined_all op)
    (numbers_parted values from (at + 1) to (omega (arith, low)) (omega (arith, high))
    ∙ ap (λ l. l ++ numbers_between values (at + 1) to) (number_more values from at z low there is ∙ ap (λ l. l ++ z ∷ []) none)))

pub first_more : (op : ℤ → ℤ → ℤ) (numbers : List ℤ) (known : List Bool) (from at to : ℕ) → from ≤ at → at < to → at < length known → get_or known at false ≡ true
    → numbers_between (values_in numbers known) from at ≡ []
    → Some (joined_from op (get_or numbers at (pos 0)) (numbers_between (values_in numbers known) (at + 1) to)) ≡ joined_all op (numbers_between (values_in numbers known) from to)
first_more op numbers known from at to low high there is none =
    first_number op (values_in numbers known) from at to (get_or numbers at (pos 0)) low high (omega (arith, there, values_count numbers known))
    (value_known numbers known at there is) none
