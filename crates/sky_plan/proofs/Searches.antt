-- What is found of stripes by number and by height: the stripe of a chunk, and the stripe of a height.
use Rattle.std.proofs.Common.{◌≡◌, ℕ, ℤ, ◌+◌, ◌-◌, ◌<◌, ◌≤◌, ◌≤ℤ◌, ◌<ℤ◌, arith, inl, inr, subst, sym, true, false, leb, leb-true, int_le, List, length, take, drop, get_or, Bool, ap, ◌∙◌, if◌then◌else◌}
use Rattle.std.specs.List.{AllWithin}
use Rattle.std.specs.List.Sorted.{IsPartitionedBy, IsPartitionPoint}
use Rattle.std.proofs.lemmas.Bool.{cases_lt, leb-false}
use Rattle.std.proofs.lemmas.Int.{ints}
use Rattle.std.proofs.lemmas.List.{take_all, drop_all, get_or_default}
use Rattle.std.proofs.lemmas.List.Sorted.{IsPartitionedBy-leb}
use Rattle.wedge_rules.proofs.Tests.{le_from, le_to}
use Rattle.sky_rules.specs.Partition.{Stripe, Partition, floor_of, sky_end, sky_bottom, chunks_in, chunk_count, nowhere}
use Rattle.sky_rules.specs.Limits.{IsSky, AreHigh}
use Rattle.sky_plan.specs.Plans.{AreFirsts, HasChunk, stripe_numbered}
use Rattle.sky_plan.specs.Sites.{SpansHeight}
use Rattle.sky_plan.proofs.Stripes.{get_or_same, floor_at, floor_up, chunks_up}

-- a number that fails the test lies above
above_if_not : (a b : ℤ) → int_le a b ≡ false → b <ℤ a
above_if_not a b h = grind (arith, ints)

-- the first chunks rise, so that a bisection may go over them
pub firsts_parted : (stripes : List Stripe) (firsts : List ℕ) (c : ℕ) → AreFirsts stripes firsts → IsPartitionedBy (λ y. leb y c) firsts
firsts_parted stripes firsts c are = IsPartitionedBy-leb (λ y. y) firsts c (λ i j d le within.
    let all = are.all in
    let lower = are.each i d (omega (arith, le, within, all)) in
    let upper = are.each j d (omega (arith, within, all)) in
    let up = chunks_up stripes i j le in omega (arith, lower, upper, up))

-- the place that a bisection over the first chunks finds is behind the first of them
pub chunk_some : (stripes : List Stripe) (firsts : List ℕ) (c r : ℕ) → 0 < length stripes → AreFirsts stripes firsts
    → IsPartitionPoint (λ y. leb y c ≡ true) (λ y. leb y c ≡ false) firsts r → 0 < r
chunk_some stripes firsts c r some are point = elim (cases_lt 0 r) [
  | inl l ↦ l
  | inr l ↦
      let all = are.all in
      let first = are.each 0 0 some in
      let none = leb-false (get_or firsts 0 0) c (point.1 0 0 l (omega (arith, some, all))) in omega (arith, first, none)
]

-- the chunk is below the first one of the stripe there
chunk_below : (g : Partition) (firsts : List ℕ) (c r : ℕ) → AreFirsts g.stripes firsts → c < chunk_count g
    → IsPartitionPoint (λ y. leb y c ≡ true) (λ y. leb y c ≡ false) firsts r → c < chunks_in (take r g.stripes)
chunk_below g firsts c r are h point = elim (cases_lt r (length g.stripes)) [
  | inl l ↦
      let all = are.all in
      let first = are.each r 0 l in
      let above = leb-false (get_or firsts r 0) c (point.1 r 0 (omega arith) (omega (arith, l, all))) in omega (arith, first, above)
  | inr l ↦ subst (λ (stripes : List Stripe). c < chunks_in stripes) (sym (take_all r g.stripes l)) h
]

-- the stripe before that place has the chunk
pub chunk_found : (g : Partition) (firsts : List ℕ) (c r : ℕ) → 0 < length g.stripes → AreFirsts g.stripes firsts → c < chunk_count g → r ≤ length firsts
    → IsPartitionPoint (λ y. leb y c ≡ true) (λ y. leb y c ≡ false) firsts r → HasChunk g (r - 1) c
chunk_found g firsts c r some are h within point =
    let all = are.all in
    let up = chunk_some g.stripes firsts c r some are point in
    let there : r - 1 < length g.stripes = omega (arith, up, within, all) in
    let first = are.each (r - 1) 0 there in
    let low = leb-true (get_or firsts (r - 1) 0) c (point.0 (r - 1) 0 (omega arith) (omega (arith, up))) in
    let e : r ≡ r - 1 + 1 = omega (arith, up) in record {
      there = there;
      low = omega (arith, first, low);
      high = subst (λ n. c < chunks_in (take n g.stripes)) e (chunk_below g firsts c r are h point);
    }

-- what begins no higher than the other one begins below what it does
bounded : (a b c d : Stripe) (z : ℤ) → a ≡ c → b ≡ d → c.z_low ≤ℤ d.z_low → b.z_low ≤ℤ z → a.z_low ≤ℤ z
bounded a b c d z e f up top =
    let turned = subst (λ (s : Stripe). s.z_low ≤ℤ z) f top in
    subst (λ (s : Stripe). s.z_low ≤ℤ z) (sym e) (omega (arith, ints, up, turned))

-- the bounds of the stripes rise
bounds_up : (stripes : List Stripe) (i j : ℕ) → AreHigh stripes → i ≤ j → j < length stripes
    → (get_or stripes i nowhere.stripe).z_low ≤ℤ (get_or stripes j nowhere.stripe).z_low
bounds_up stripes i j high le within =
    let lower = floor_at stripes i (omega (arith, le, within)) in
    let upper = floor_at stripes j within in
    let up = floor_up stripes i j high le in omega (arith, ints, lower, upper, up)

-- so that a bisection may go over them
pub bounds_parted : (g : Partition) (z : ℤ) → IsSky g → IsPartitionedBy (λ (s : Stripe). int_le s.z_low z) g.stripes
bounds_parted g z sky i j d le within held =
    let lower = get_or_same g.stripes i d nowhere.stripe (omega (arith, le, within)) in
    let upper = get_or_same g.stripes j d nowhere.stripe within in
    let up = bounds_up g.stripes i j sky.high le within in
    let top = le_from (get_or g.stripes j d).z_low z held in
    le_to (get_or g.stripes i d).z_low z (bounded _ _ _ _ z lower upper up top)

-- the place that a bisection over the bounds finds is behind the first of them
pub height_some : (g : Partition) (z : ℤ) (r : ℕ) → IsSky g → sky_bottom ≤ℤ z
    → IsPartitionPoint (λ (s : Stripe). int_le s.z_low z ≡ true) (λ (s : Stripe). int_le s.z_low z ≡ false) g.stripes r → 0 < r
height_some g z r sky low point = elim (cases_lt 0 r) [
  | inl l ↦ l
  | inr l ↦
      let first = floor_at g.stripes 0 sky.some in
      let bottom = sky.bottom in
      let none = above_if_not (get_or g.stripes 0 nowhere.stripe).z_low z (point.1 0 nowhere.stripe l sky.some) in omega (arith, ints, first, bottom, low, none)
]

-- one element more is counted where it passes, of elements of which none passes behind one that fails
pub counted_more : {X : Type 0} (p : X → Bool) (xs : List X) (i n m : ℕ) (x : X) → IsPartitionedBy p xs → i < length xs → x ≡ get_or xs i x → n ≤ i
    → AllWithin (λ y. p y ≡ true) xs 0 n → AllWithin (λ y. p y ≡ false) xs n i → (b : Bool) → p x ≡ b → m ≡ n + (if b then 1 else 0)
    → (m ≤ i + 1) × (AllWithin (λ y. p y ≡ true) xs 0 m × AllWithin (λ y. p y ≡ false) xs m (i + 1))
counted_more {X} p xs i n m x parted low own few below above false fails is =
    let at : (d : X) → get_or xs i d ≡ x = λ d. get_or_default xs i d x low ∙ sym own in (
      omega (arith, is, few),
      (
        (λ k d le lt. below k d le (omega (arith, lt, is))),
        (λ k d le lt. elim (cases_lt k i) [
          | inl before ↦ above k d (omega (arith, le, is)) before
          | inr behind ↦ let here : k ≡ i = omega (arith, lt, behind) in ap p (ap (λ k. get_or xs k d) here ∙ at d) ∙ fails
        ]),
      ),
    )
counted_more {X} p xs i n m x parted low own few below above true passes is =
    let at : (d : X) → get_or xs i d ≡ x = λ d. get_or_default xs i d x low ∙ sym own in
    let all : n ≡ i = elim (cases_lt n i) [
      | inl before ↦ absurd (cc (above n x (omega arith) before, parted n i x few low (ap p (at x) ∙ passes)))
      | inr behind ↦ omega (arith, few, behind)
    ] in (
      omega (arith, is, all),
      (
        (λ k d le lt. elim (cases_lt k n) [
          | inl before ↦ below k d le before
          | inr behind ↦ let here : k ≡ i = omega (arith, lt, behind, is, all) in ap p (ap (λ k. get_or xs k d) here ∙ at d) ∙ passes
        ]),
        (λ k d le lt. absurd (omega (arith, le, lt, is, all))),
      ),
    )

-- the height is below the stripe there
height_below : (g : Partition) (z : ℤ) (r : ℕ) → z <ℤ sky_end
    → IsPartitionPoint (λ (s : Stripe). int_le s.z_low z ≡ true) (λ (s : Stripe). int_le s.z_low z ≡ false) g.stripes r → z <ℤ floor_of (drop r g.stripes)
height_below g z r high point = elim (cases_lt r (length g.stripes)) [
  | inl l ↦
      let first = floor_at g.stripes r l in
      let above = above_if_not (get_or g.stripes r nowhere.stripe).z_low z (point.1 r nowhere.stripe (omega arith) l) in omega (arith, ints, first, above)
  | inr l ↦ subst (λ (stripes : List Stripe). z <ℤ floor_of stripes) (sym (drop_all r g.stripes l)) high
]

-- the stripe before that place has the height
pub height_found : (g : Partition) (z : ℤ) (r : ℕ) → IsSky g → sky_bottom ≤ℤ z → z <ℤ sky_end → r ≤ length g.stripes
    → IsPartitionPoint (λ (s : Stripe). int_le s.z_low z ≡ true) (λ (s : Stripe). int_le s.z_low z ≡ false) g.stripes r → SpansHeight g (r - 1) z
height_found g z r sky bottom end within point =
    let up = height_some g z r sky bottom point in
    let e : r ≡ r - 1 + 1 = omega (arith, up) in record {
      there = omega (arith, up, within);
      low = le_from (stripe_numbered g (r - 1)).z_low z (point.0 (r - 1) nowhere.stripe (omega arith) (omega (arith, up)));
      high = subst (λ n. z <ℤ floor_of (drop n g.stripes)) e (height_below g z r end point);
    }
