-- The three runs of wedges that a window leaves.
use Rattle.std.proofs.Common.{◌≡◌, ℕ, ◌+◌, ◌-◌, ◌*◌, ◌/◌, ◌%◌, ◌≤◌, ◌<◌, arith, refl, sym, ◌∙◌, subst, inl, inr, false, lt-ltb, le-ltb}
use Rattle.std.specs.Prelude.{min}
use Rattle.std.proofs.lemmas.Bool.{cases_lt}
use Rattle.sky_vector.specs.Points.{Point}
use Rattle.wedge_rules.specs.Heading.{heading}
use Rattle.wedge_rules.specs.Wedge.{InWedge}
use Rattle.sky_rules.specs.Bounds.{near_side, near_sides, sides_of}
use Rattle.overlap_tables.specs.Windows.{side_back, side_on, IsNarrow, straight, round, IsBetween, inside, behind_first, before_second, IsWindow, IsLeftOut, below, then, later, above, AreCandidates, IsGap, gap_below_opposite, gap_before, gap_after, gap_above_opposite, gap_whole_opposite_back, gap_whole_opposite_on, gap_round_after, gap_round_before, CoverWay}
use Rattle.overlap_tables.proofs.Turns.{direct}
use Rattle.overlap_tables.proofs.Windows.{gap_not_near}

-- what the runs of a window leave out is not near
pub window_candidates : (n r i j a b c d e f : ℕ) (p : Point) → IsWindow n r i j p → CoverWay n i j a b c d e f → AreCandidates n r p a b c d e f
window_candidates n r i j a b c d e f p is cover = record {
  row = cover.row;
  others = λ k hk out. gap_not_near n r i j k p is hk (cover.gaps k hk out);
}

all_out : (n r k : ℕ) (p : Point) → k < n → IsLeftOut 0 0 0 0 0 n k → near_sides r (sides_of n k) p ≡ false
all_out n r k p hk (below h) = absurd (omega (arith, h))
all_out n r k p hk (then l h) = absurd (omega (arith, h))
all_out n r k p hk (later l h) = absurd (omega (arith, h))
all_out n r k p hk (above h) = absurd (omega (arith, h, hk))

-- all wedges leave out none
pub all_candidates : (n r a b c d e f : ℕ) (p : Point) → (a ≡ 0) × (b ≡ 0) → (c ≡ 0) × (d ≡ 0) → (e ≡ 0) × (f ≡ n) → AreCandidates n r p a b c d e f
all_candidates n r a b c d e f p low middle high =
    rw (low.0, low.1, middle.0, middle.1, high.0, high.1) (record {
      row = record { first = omega arith; second = omega arith; third = omega arith; fourth = omega arith; fifth = omega arith; last = omega arith };
      others = λ k hk out. all_out n r k p hk out;
    })

straight_gaps : (n i j k : ℕ) → i < j → IsLeftOut (i - (n - n / 2)) (j - n / 2) i j (min n (i + n / 2)) (min n (j + (n - n / 2))) k → k < n → IsGap n i j k
straight_gaps n i j k h (below l) hk = gap_below_opposite h (omega (arith, l))
straight_gaps n i j k h (then l m) hk = gap_before h (omega (arith, m)) (omega (arith, l))
straight_gaps n i j k h (later l m) hk = gap_after h l (omega (arith, m))
straight_gaps n i j k h (above l) hk = gap_above_opposite h (omega (arith, l, hk))

-- a way that does not lead past the last side
pub straight_cover : (n i j : ℕ) → j ≤ n → IsNarrow n i j → i < j
    → CoverWay n i j (i - (n - n / 2)) (j - n / 2) i j (min n (i + n / 2)) (min n (j + (n - n / 2)))
straight_cover n i j hj is h = let narrow = direct n i j is h in record {
  row = record {
    first = omega (arith, h);
    second = omega (arith, h, narrow);
    third = omega (arith, h);
    fourth = omega (arith, h, narrow, hj);
    fifth = omega (arith, h);
    last = omega arith;
  };
  gaps = λ k hk out. straight_gaps n i j k h out hk;
}

round_gaps : (n i j k : ℕ) → 2 * j + n < 2 * i → IsLeftOut 0 j (i - (n - n / 2)) (j + (n - n / 2)) i n k → k < n → IsGap n i j k
round_gaps n i j k h (below l) hk = absurd (omega (arith, l))
round_gaps n i j k h (then l m) hk = gap_round_after h l (omega (arith, m))
round_gaps n i j k h (later l m) hk = gap_round_before h (omega (arith, l)) (omega (arith, m))
round_gaps n i j k h (above l) hk = absurd (omega (arith, l, hk))

-- of an even number, a wedge before the one that is the whole way
before_alone : (n half i k : ℕ) → n ≡ 2 * half → k < i → IsGap n i (i + 1) k
before_alone n half i k is low = elim (cases_lt (2 * i) (2 * k + 2 + n)) [
  | inl l ↦ elim (cases_lt (2 * k + n) (2 * i + 2)) [
    | inl m ↦ gap_whole_opposite_back (omega arith) (omega (arith, low)) (omega (arith, is, m)) (omega (arith, is, l))
    | inr m ↦ gap_before (omega arith) (omega (arith, low)) (omega (arith, m))
  ]
  | inr l ↦ gap_below_opposite (omega arith) (omega (arith, l))
]

-- and one behind it
behind_alone : (n half i k : ℕ) → n ≡ 2 * half → i + 1 ≤ k → IsGap n i (i + 1) k
behind_alone n half i k is low = elim (cases_lt (2 * i + n) (2 * k + 2)) [
  | inl l ↦ elim (cases_lt (2 * k) (2 * i + 2 + n)) [
    | inl m ↦ gap_whole_opposite_on (omega arith) low (omega (arith, is, m)) (omega (arith, is, l))
    | inr m ↦ gap_above_opposite (omega arith) (omega (arith, m))
  ]
  | inr l ↦ gap_after (omega arith) low (omega (arith, l))
]

alone_gaps : (n i k : ℕ) → n % 2 ≡ 0 → IsLeftOut 0 0 i (i + 1) n n k → k < n → IsGap n i (i + 1) k
alone_gaps n i k even (below l) hk = absurd (omega (arith, l))
alone_gaps n i k even (then l m) hk = before_alone n (n / 2) i k (omega (arith, even)) m
alone_gaps n i k even (later l m) hk = behind_alone n (n / 2) i k (omega (arith, even)) l
alone_gaps n i k even (above l) hk = absurd (omega (arith, l, hk))

-- of an even number, a wedge that is the whole way leaves none but itself
pub alone_cover : (n i : ℕ) → n % 2 ≡ 0 → i < n → CoverWay n i (i + 1) 0 0 i (i + 1) n n
alone_cover n i even hi = record {
  row = record {
    first = omega arith;
    second = omega arith;
    third = omega arith;
    fourth = omega (arith, hi);
    fifth = omega arith;
    last = omega arith;
  };
  gaps = λ k hk out. alone_gaps n i k even out hk;
}

-- the other way is long
wide : (n i j : ℕ) → IsNarrow n i j → j ≤ i → 2 * j + n < 2 * i
wide n i j (straight h k) l = absurd (omega (arith, h, l))
wide n i j (round h) l = h

-- a way that leads past the last side
pub round_cover : (n i j : ℕ) → i < n → IsNarrow n i j → j ≤ i → CoverWay n i j 0 j (i - (n - n / 2)) (j + (n - n / 2)) i n
round_cover n i j hi is l = let h = wide n i j is l in record {
  row = record {
    first = omega arith;
    second = omega (arith, h);
    third = omega (arith, h);
    fourth = omega (arith, h);
    fifth = omega (arith, hi);
    last = omega arith;
  };
  gaps = λ k hk out. round_gaps n i j k h out hk;
}

-- where it goes past the last side, the other half fits in front of the first
pub round_fits : (n i j : ℕ) → IsNarrow n i j → j ≤ i → n - n / 2 ≤ i
round_fits n i j is l = let h = wide n i j is l in omega (arith, h)

back_near : (n k steps : ℕ) → steps ≤ k → side_back n k steps ≡ k - steps
back_near n k steps h = rw (le-ltb k steps h) refl

back_round : (n k steps : ℕ) → k < steps → side_back n k steps ≡ k + n - steps
back_round n k steps h = rw (lt-ltb k steps h) refl

on_near : (n k steps : ℕ) → k + 1 + steps ≤ n → side_on n k steps ≡ k + 1 + steps
on_near n k steps h = rw (le-ltb n (k + 1 + steps) h) refl

on_round : (n k steps : ℕ) → n < k + 1 + steps → side_on n k steps ≡ k + 1 + steps - n
on_round n k steps h = rw (lt-ltb n (k + 1 + steps) h) refl

-- The sides so many steps back from a wedge and on from it: the way between them is narrow, and the wedge is on it.
record IsWay (n k a b : ℕ) : Type 0 where
  narrow : IsNarrow n a b
  way : IsBetween n a b k

way_by : (n k back on a b : ℕ) → k < n → 2 * (back + 1 + on) < n → a ≡ side_back n k back → b ≡ side_on n k on → IsWay n k a b
way_by n k back on a b hk few e f = elim (cases_lt k back) [
  | inl l ↦ elim (cases_lt n (k + 1 + on)) [
    | inl m ↦ absurd (omega (arith, l, m, few))
    | inr m ↦
        let u = e ∙ back_round n k back l in
        let v = f ∙ on_near n k on m in
        record { narrow = round (omega (arith, u, v, few, hk)); way = before_second (omega (arith, u, v, few, hk)) (omega (arith, v)) }
  ]
  | inr l ↦ elim (cases_lt n (k + 1 + on)) [
    | inl m ↦
        let u = e ∙ back_near n k back l in
        let v = f ∙ on_round n k on m in
        record { narrow = round (omega (arith, u, v, few, l, m)); way = behind_first (omega (arith, u, v, few, l, m)) (omega (arith, u)) }
    | inr m ↦
        let u = e ∙ back_near n k back l in
        let v = f ∙ on_near n k on m in
        record { narrow = straight (omega (arith, u, v)) (omega (arith, u, v, few, l)); way = inside (omega (arith, u)) (omega (arith, v)) }
  ]
]

-- the sides at which the walk from a wedge ends make a window, where the steps are few
pub window_made : (n r k back on a b : ℕ) (p : Point) → k < n → InWedge n k p.x p.y → 2 * (back + 1 + on) < n
    → a ≡ side_back n k back → a < n → b ≡ side_on n k on → b ≤ n
    → near_side r (heading n (side_back n k back)) p ≡ false → near_side r (heading n (side_on n k on)) p ≡ false → IsWindow n r a b p
window_made n r k back on a b p hk held few e ha f hb far_a far_b =
    let is = way_by n k back on a b hk few e f in record {
      first_there = ha;
      second_there = hb;
      narrow = is.narrow;
      first_far = subst (λ s. near_side r (heading n s) p ≡ false) (sym e) far_a;
      second_far = subst (λ s. near_side r (heading n s) p ≡ false) (sym f) far_b;
      own = (k, hk, is.way, held);
    }
