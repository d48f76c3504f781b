-- What a sky text is accepted as is within the limits.
use Rattle.std.proofs.Common.{◌≡◌, ℕ, ℤ, pos, ◌+◌, ◌*◌, ◌≤◌, ◌+ℤ◌, ◌≤ℤ◌, arith, refl, ap, inl, inr, subst, sym, ◌∙◌, nat_abs, Bool, true, false, not, ◌&&◌, ◌||◌, ltb-true, true≢false, List, [], ◌∷◌, ◌++◌, length, length-append, Option, None, Some, Result, Ok, Err, cond}
use Rattle.std.specs.Prelude.{All}
use Rattle.std.specs.List.{last_or, filter}
use Rattle.std.specs.Ordering.{int_eq}
use Rattle.std.proofs.lemmas.Bool.{cases_lt, and_parts, and_from, or_cases}
use Rattle.std.proofs.lemmas.Int.{ints}
use Rattle.std.proofs.lemmas.List.Elements.{All-nil, All-push}
use Rattle.std.proofs.lemmas.List.Sums.{sum_by-append}
use Rattle.text_rules.specs.Lines.{Line, lines_of, is_note}
use Rattle.wedge_rules.specs.Wedge.{IsWedgeCount}
use Rattle.wedge_rules.proofs.Tests.{le_from, eq_from, eq_to}
use Rattle.wedge_rules.proofs.Products.{times_le}
use Rattle.sky_rules.specs.declared.fault.SkyFault.{SkyFault}
use Rattle.sky_rules.specs.declared.fault.SkyFault.TheVariants.{Overlap, Order, Count, TooMany}
use Rattle.sky_rules.specs.Partition.{Stripe, Partition, sky_bottom, sky_end, chunks_in}
use Rattle.sky_rules.specs.SkyWords.{Version, Said, version_on, said_on}
use Rattle.sky_rules.specs.SkyText.{is_from, is_overlap, begins_above, is_in_order, is_cut, is_room, stripe_said, judged_stripe, judged_version, sky_under, unless_fault, sky_of_lines, sky_of}
use Rattle.sky_rules.specs.SkySteps.{stripes_with, whole_sky}
use Rattle.sky_rules.specs.Limits.{IsStripe, IsSky, AreHigh}
use Rattle.sky_rules.specs.Laws.{AcceptedIsWithinLimits}
use Rattle.sky_rules.proofs.Sites.{chunks_more}
use Rattle.sky_rules.proofs.Steps.{read_line_by_line}

-- what a result without a fault came of
went_on : {A B : Type 0} (r : Result A SkyFault) (next : A → Result B SkyFault) (b : B) → unless_fault r next ≡ Ok b
    → (a : A) × (r ≡ Ok a) × (next a ≡ Ok b)
went_on (Err fault) next b h = absurd (cc)
went_on (Ok a) next b h = (a, refl, h)

-- a number in a range is from its ends
from_range : (low high z : ℤ) → is_from low high z ≡ true → (low ≤ℤ z) × (z ≤ℤ high)
from_range low high z h = let parts = and_parts _ _ h in (le_from low z parts.0, le_from z high parts.1)

-- a range of naturals, and the size of a number in it
size_in : (low high : ℕ) (z : ℤ) → pos low ≤ℤ z → z ≤ℤ pos high → (pos (nat_abs z) ≡ z) × (low ≤ nat_abs z) × (nat_abs z ≤ high)
size_in low high z lo hi =
    let e : pos (nat_abs z) ≡ z = grind (arith, ints) in (e, omega (arith, ints, e, lo), omega (arith, ints, e, hi))

-- the chunks of a stripe line are 1 or from 3 to 1,024
chunks_said : (z : ℤ) → (int_eq z (pos 1) || is_from (pos 3) (pos 1024) z) ≡ true
    → (pos (nat_abs z) ≡ z) × IsWedgeCount (nat_abs z) × (nat_abs z ≤ 1024)
chunks_said z h = elim (or_cases _ _ h) [
  | inl one ↦ let e = eq_from z (pos 1) one in let s = size_in 1 1 z (omega (arith, ints, e)) (omega (arith, ints, e)) in (s.0, inl (omega (arith, s.1, s.2)), omega (arith, s.2))
  | inr more ↦ let r = from_range (pos 3) (pos 1024) z more in let s = size_in 3 1024 z r.0 r.1 in (s.0, inr s.1, s.2)
]

-- the fine wedges are one or at least three
fine_count : (c m : ℕ) → IsWedgeCount c → 1 ≤ m → (c ≡ 1 → m ≡ 2 → ⊥) → IsWedgeCount (c * m)
fine_count c m (inl one) some not_two =
    let same : c * m ≡ 1 * m = ap (λ t. t * m) one in
    elim (cases_lt m 2) [
      | inl l ↦ inl (omega (arith, same, l, some))
      | inr l ↦ elim (cases_lt 2 m) [
        | inl k ↦ inr (omega (arith, same, k))
        | inr k ↦ absurd (not_two one (omega (arith, l, k)))
      ]
    ]
fine_count c m (inr more) some not_two = let k = times_le 3 c m more in inr (omega (arith, k, some))

-- one chunk has not two columns
not_two_columns : (chunks columns : ℤ) → not (int_eq chunks (pos 1) && int_eq columns (pos 2)) ≡ true → chunks ≡ pos 1 → columns ≡ pos 2 → ⊥
not_two_columns chunks columns h e f =
    let both = and_from (int_eq chunks (pos 1)) (int_eq columns (pos 2)) (eq_to chunks (pos 1) e) (eq_to columns (pos 2) f) in
    true≢false (sym h ∙ ap not both)

-- the stripe of an accepted line is within the limits
stripe_good : (said : Said) → is_overlap said.overlap ≡ true → is_cut said ≡ true → IsStripe (stripe_said said)
stripe_good said ro cut =
    let parts = and_parts _ _ cut in
    let three = and_parts _ _ parts.0 in
    let two = and_parts _ _ three.0 in
    let c = chunks_said said.chunks two.0 in
    let mr = from_range (pos 1) (pos 64) said.columns two.1 in
    let m = size_in 1 64 said.columns mr.0 mr.1 in
    let tr = from_range (pos 1) (pos 64) said.rows parts.1 in
    let t = size_in 1 64 said.rows tr.0 tr.1 in
    let rr = from_range (pos 0) (pos 16777216) said.overlap ro in
    let r = size_in 0 16777216 said.overlap rr.0 rr.1 in record {
      chunks = c.1;
      few_chunks = c.2;
      fine = fine_count (nat_abs said.chunks) (nat_abs said.columns) c.1 m.1
          (λ one two. let a = c.0 in let b = m.0 in not_two_columns said.chunks said.columns three.1 (omega (arith, ints, a, one)) (omega (arith, ints, b, two)));
      some_columns = m.1;
      few_columns = m.2;
      some_rows = t.1;
      few_rows = t.2;
      overlap = r.2;
    }

-- the first of the stripes is at the bottom of the sky, where there is one
abbrev BeginsLow : List Stripe → Type 0
BeginsLow [] = Unit {0}
BeginsLow (s ∷ rest) = s.z_low ≡ sky_bottom

-- the stripes so far are within the limits
record AreGood (before : List Stripe) : Type 0 where
  few : length before ≤ 256
  bottom : BeginsLow before
  high : AreHigh before
  stripes : All IsStripe before
  few_chunks : chunks_in before ≤ 16384

-- so are none
none_good : AreGood []
none_good = record { few = omega arith; bottom = tt; high = tt; stripes = All-nil IsStripe; few_chunks = omega arith }

-- the first stripe stays the first
begins_more : (before : List Stripe) (s : Stripe) → BeginsLow before → begins_above (last_or None before) s.z_low ≡ true → BeginsLow (before ++ (s ∷ []))
begins_more [] s low above = eq_from s.z_low sky_bottom above
begins_more (x ∷ xs) s low above = low

-- one more stripe, 64 above the last, keeps each 64 high
high_after : (x : Stripe) (xs : List Stripe) (s : Stripe) → AreHigh (x ∷ xs) → begins_above (last_or (Some x) xs) s.z_low ≡ true
    → (s.z_low +ℤ pos 64) ≤ℤ sky_end → AreHigh ((x ∷ xs) ++ (s ∷ []))
high_after x [] s high above top = (le_from (x.z_low +ℤ pos 64) s.z_low above, (top, tt))
high_after x (y ∷ ys) s high above top = (high.0, high_after y ys s high.1 above top)

-- so does the first
high_more : (before : List Stripe) (s : Stripe) → AreHigh before → begins_above (last_or None before) s.z_low ≡ true
    → (s.z_low +ℤ pos 64) ≤ℤ sky_end → AreHigh (before ++ (s ∷ []))
high_more [] s high above top = (top, tt)
high_more (x ∷ xs) s high above top = high_after x xs s high above top

-- the chunks with one more stripe
chunks_after : (before : List Stripe) (s : Stripe) → chunks_in (before ++ (s ∷ [])) ≡ chunks_in before + s.chunks
chunks_after before s =
    let parts = sum_by-append (λ (x : Stripe). x.chunks) before (s ∷ []) in
    let last = chunks_more s [] in omega (arith, parts, last)

-- the stripe of an accepted line keeps the limits
good_more : (before : List Stripe) (said : Said) → AreGood before → is_overlap said.overlap ≡ true → is_in_order before said.z_low ≡ true
    → is_cut said ≡ true → is_room before said.chunks ≡ true → AreGood (before ++ (stripe_said said ∷ []))
good_more before said good overlap order cut room =
    let places = and_parts _ _ order in
    let rooms = and_parts _ _ room in
    let fewer = ltb-true (length before) 256 rooms.0 in
    let top = le_from (said.z_low +ℤ pos 64) sky_end places.1 in
    let chunks = le_from (pos (chunks_in before) +ℤ said.chunks) (pos 16384) rooms.1 in
    let counts = and_parts _ _ (and_parts _ _ (and_parts _ _ cut).0).0 in
    let size = (chunks_said said.chunks counts.0).0 in
    let more = length-append before (stripe_said said ∷ []) in
    let all = chunks_after before (stripe_said said) in record {
      few = omega (arith, fewer, more);
      bottom = begins_more before (stripe_said said) good.bottom places.0;
      high = high_more before (stripe_said said) good.high places.0 top;
      stripes = All-push IsStripe before (stripe_said said) good.stripes (stripe_good said overlap cut);
      few_chunks = omega (arith, ints, chunks, size, all);
    }

-- a stripe line without a fault keeps the limits, by its four tests
judged_step : (line : ℕ) (before : List Stripe) (said : Said) (s : Stripe) (a b c d : Bool) → is_overlap said.overlap ≡ a → is_in_order before said.z_low ≡ b
    → is_cut said ≡ c → is_room before said.chunks ≡ d
    → cond (not a) (Err (Overlap line)) (cond (not b) (Err (Order line)) (cond (not c) (Err (Count line)) (cond (not d) (Err (TooMany line)) (Ok (stripe_said said))))) ≡ Ok s
    → AreGood before → AreGood (before ++ (s ∷ []))
judged_step line before said s false b c d ea eb ec ed h good = absurd (cc)
judged_step line before said s true false c d ea eb ec ed h good = absurd (cc)
judged_step line before said s true true false d ea eb ec ed h good = absurd (cc)
judged_step line before said s true true true false ea eb ec ed h good = absurd (cc)
judged_step line before said s true true true true ea eb ec ed h good =
    let same : stripe_said said ≡ s = cc in subst (λ (x : Stripe). AreGood (before ++ (x ∷ []))) same (good_more before said good ea eb ec ed)

-- a line without a fault keeps the limits
judged_good : (line : ℕ) (before : List Stripe) (said : Option Said) (s : Stripe) → judged_stripe line before said ≡ Ok s → AreGood before → AreGood (before ++ (s ∷ []))
judged_good line before None s h good = absurd (cc)
judged_good line before (Some said) s h good = judged_step line before said s _ _ _ _ refl refl refl refl h good

-- lines without a fault keep the limits
stripes_good : (version : Version) (before : List Stripe) (rest : List Line) (all : List Stripe) → AreGood before → stripes_with version before rest ≡ Ok all → AreGood all
stripes_good version before [] all good h = let same : before ≡ all = cc in subst AreGood same good
stripes_good version before (line ∷ rest) all good h =
    let step = went_on (judged_stripe line.number before (said_on version line.text)) (λ stripe. stripes_with version (before ++ (stripe ∷ [])) rest) all h in
    stripes_good version (before ++ (step.0 ∷ [])) rest all (judged_good line.number before (said_on version line.text) step.0 step.1 good) step.2

-- stripes within the limits, of which there is one, are a partition
whole_good : (behind : ℕ) (stripes : List Stripe) (g : Partition) → AreGood stripes → whole_sky behind stripes ≡ Ok g → IsSky g
whole_good behind [] g good h = absurd (cc)
whole_good behind (s ∷ rest) g good h =
    let sky : Partition = record { stripes = s ∷ rest } in
    let same : sky ≡ g = cc in
    subst IsSky same (record { some = omega arith; few = good.few; bottom = good.bottom; high = good.high; stripes = good.stripes; few_chunks = good.few_chunks })

-- lines that are accepted say a partition within the limits
lines_good : (behind : ℕ) (lines : List Line) (g : Partition) → sky_of_lines behind lines ≡ Ok g → IsSky g
lines_good behind [] g h = absurd (cc)
lines_good behind (first ∷ rest) g h =
    let version = went_on (judged_version first.number (version_on first.text)) (λ v. sky_under behind v rest) g h in
    let stripes = went_on (stripes_with version.0 [] rest) (whole_sky behind) g (sym (read_line_by_line behind version.0 rest) ∙ version.2) in
    whole_good behind stripes.0 g (stripes_good version.0 [] rest stripes.0 none_good stripes.1) stripes.2

-- what a sky text is accepted as is within the limits
pub accepted_is_within_limits : AcceptedIsWithinLimits
unfolding sky_of
accepted_is_within_limits text g h =
    lines_good (length (lines_of text) + 1) (filter (λ (line : Line). not (is_note line.text)) (lines_of text)) g h
