-- Counting the chunks below each stripe.
use Rattle.std.proofs.Common.{◌≡◌, ℕ, ◌+◌, ◌<◌, ◌≤◌, ◌∙◌, arith, refl, inl, inr, subst, List, [], ◌∷◌, ◌++◌, length, length-append, take, get_or}
use Rattle.std.proofs.lemmas.Bool.{cases_lt}
use Rattle.std.proofs.lemmas.List.{take_all, get_or_append_left, get_or_push}
use Rattle.std.proofs.lemmas.List.Sums.{sum_by_more}
use Rattle.sky_rules.specs.Partition.{Stripe, Partition, chunks_in, greatest_overlap}
use Rattle.sky_rules.specs.Limits.{IsSky}
use Rattle.sky_plan.specs.Plans.{IsPlan}
use Rattle.sky_plan.proofs.Stripes.{chunks_within}

-- The chunks of the first k stripes are counted, and how many lie below each.
pub record IsCounted (stripes : List Stripe) (k : ℕ) (firsts : List ℕ) (n : ℕ) : Type 0 where
  pub all : length firsts ≡ k
  pub each : (i d : ℕ) → i < k → get_or firsts i d ≡ chunks_in (take i stripes)
  pub count : n ≡ chunks_in (take k stripes)

-- at first none are
pub none_counted : (stripes : List Stripe) → IsCounted stripes 0 [] 0
none_counted stripes = record { all = refl; each = λ i d h. absurd (omega (arith, h)); count = omega arith }

-- with the next stripe
pub counted_more : (stripes : List Stripe) (k : ℕ) (firsts : List ℕ) (count : ℕ) (d : Stripe) → k < length stripes
    → IsCounted stripes k firsts count → IsCounted stripes (k + 1) (firsts ++ (count ∷ [])) (count + (get_or stripes k d).chunks)
counted_more stripes k firsts n d h is = record {
  all = let more = length-append firsts (n ∷ []) in let all = is.all in omega (arith, more, all);
  each = λ i e low. elim (cases_lt i k) [
    | inl l ↦
        let all = is.all in
        let kept = get_or_append_left firsts (n ∷ []) e i (omega (arith, l, all)) in
        let before = is.each i e l in omega (arith, kept, before)
    | inr l ↦
        let all = is.all in
        let pushed = get_or_push firsts n e i (omega (arith, low, l, all)) in
        let now = is.count in
        let same : k ≡ i = omega (arith, low, l) in
        subst (λ j. get_or (firsts ++ (n ∷ [])) i e ≡ chunks_in (take j stripes)) same (pushed ∙ now)
  ];
  count = let more = sum_by_more (λ (s : Stripe). s.chunks) stripes k d h in let now = is.count in omega (arith, more, now);
}

-- the stripe that is counted fits, since all chunks do
pub count_fits : (stripes : List Stripe) (k : ℕ) (firsts : List ℕ) (count : ℕ) (d : Stripe) → k < length stripes → chunks_in stripes ≤ 16384
    → IsCounted stripes k firsts count → count + (get_or stripes k d).chunks ≤ 16384
count_fits stripes k firsts n d h few is =
    let more = sum_by_more (λ (s : Stripe). s.chunks) stripes k d h in
    let within = chunks_within stripes (k + 1) in
    let now = is.count in omega (arith, more, within, now, few)

-- when all stripes are counted, the counts are those of a plan
pub all_counted : (g : Partition) (firsts : List ℕ) (count most : ℕ) → IsSky g → most ≡ greatest_overlap g
    → IsCounted g.stripes (length g.stripes) firsts count → IsPlan g firsts count most
all_counted g firsts n most sky widest is = record {
  sky = sky;
  firsts = record { all = is.all; each = is.each };
  count = is.count ∙ subst (λ (stripes : List Stripe). chunks_in (take (length g.stripes) g.stripes) ≡ chunks_in stripes) (take_all (length g.stripes) g.stripes (omega arith)) refl;
  greatest = widest;
}
