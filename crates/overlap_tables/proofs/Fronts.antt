-- What stands behind a list where the putting stopped early: a front of what was to be put.
use Rattle.std.proofs.Common.{◌≡◌, ℕ, ◌+◌, ◌-◌, ◌≤◌, ◌<◌, arith, refl, sym, ◌∙◌, ap, subst, Bool, List, [], ◌++◌, append_assoc, append-nil, length}
use Rattle.std.specs.List.{filter, range_with_len}
use Rattle.sky_vector.specs.Points.{Point}
use Rattle.sky_rules.specs.Partition.{Partition}
use Rattle.sky_plan.specs.Plans.{stripe_numbered}
use Rattle.overlap_tables.specs.Heights.{HaveOthers, first_chunk}
use Rattle.overlap_tables.specs.Overlaps.{AddsFront, near_others, others_between}
use Rattle.overlap_tables.specs.Windows.{AreCandidates}
use Rattle.overlap_tables.proofs.InStripe.{near_pushed, stripe_pushed}
use Rattle.overlap_tables.proofs.Ranges.{between, joined}

-- the front of a list is one of a longer list
pub longer : (old new whole more : List ℕ) → AddsFront old new whole → AddsFront old new (whole ++ more)
longer old new whole more adds = record {
  front = adds.front;
  rest = adds.rest ++ more;
  added = adds.added;
  within = ap (λ l. l ++ more) adds.within ∙ append_assoc adds.front adds.rest more;
}

-- a front behind a list that was put is one of both
pub behind : (old now new head whole : List ℕ) → now ≡ old ++ head → AddsFront now new whole → AddsFront old new (head ++ whole)
behind old now new head whole e adds = record {
  front = head ++ adds.front;
  rest = adds.rest;
  added = adds.added ∙ ap (λ l. l ++ adds.front) e ∙ append_assoc old head adds.front;
  within = ap (λ l. head ++ l) adds.within ∙ sym (append_assoc head adds.front adds.rest);
}

-- nothing is a front
pub nothing : (old new whole : List ℕ) → new ≡ old → AddsFront old new whole
nothing old new whole e = record { front = []; rest = whole; added = e ∙ sym (append-nil old); within = refl }

-- and so is the whole
pub everything : (old new whole : List ℕ) → new ≡ old ++ whole → AddsFront old new whole
everything old new whole e = record { front = whole; rest = []; added = e; within = sym (append-nil whole) }

-- of the numbers from a to d that pass, those up to b stand there, and a front of those from b to c
pub stopped : (p : ℕ → Bool) (a b c d : ℕ) (old now new : List ℕ) → a ≤ b → b ≤ c → c ≤ d → now ≡ old ++ between p a b
    → AddsFront now new (between p b c) → AddsFront old new (between p a d)
stopped p a b c d old now new h k l e adds =
    let more = longer now new (between p b c) (between p c d) adds in
    let rest = subst (λ whole. AddsFront now new whole) (joined p b c d k l) more in
    let both = behind old now new (between p a b) (between p b d) e rest in
    subst (λ whole. AddsFront old new whole) (joined p a b d h (omega (arith, k, l))) both

-- of these, those up to b stand there, and none behind them
pub stopped_at : (p : ℕ → Bool) (a b d : ℕ) (old now new : List ℕ) → a ≤ b → b ≤ d → now ≡ old ++ between p a b → new ≡ now
    → AddsFront old new (between p a d)
stopped_at p a b d old now new h k e f = stopped p a b b d old now new h (omega arith) k e (nothing now new (between p b b) f)

-- the same, where all numbers below d are asked
pub stopped_below : (p : ℕ → Bool) (b d : ℕ) (old now new : List ℕ) → b ≤ d → now ≡ old ++ between p 0 b → new ≡ now
    → AddsFront old new (filter p (range_with_len 0 d))
stopped_below p b d old now new k e f =
    let whole : d - 0 ≡ d = omega arith in
    subst (λ n. AddsFront old new (filter p (range_with_len 0 n))) whole (stopped_at p 0 b d old now new (omega arith) k e f)

-- a front of the chunks of stripes that have each that needs the point is one of all of them
pub front_of_all : (g : Partition) (p : Point) (from to : ℕ) (old new : List ℕ) → HaveOthers g p from to
    → AddsFront old new (others_between g p (first_chunk g from) (first_chunk g to)) → AddsFront old new (near_others g p)
front_of_all g p from to old new have adds =
    subst (λ whole. AddsFront old new whole) (near_pushed g p from to [] _ have refl) adds

-- The whole list is three others, one behind the other.
pub record AreParts (low middle high whole : List ℕ) : Type 0 where
  pub together : low ++ (middle ++ high) ≡ whole

-- the chunks of a stripe that need a point are those of three runs, outside of which no wedge is near it
pub runs_of_stripe : (g : Partition) (i first n r a b c d e f : ℕ) (p : Point) → i < length g.stripes
    → first ≡ first_chunk g i → n ≡ (stripe_numbered g i).chunks → r ≡ (stripe_numbered g i).overlap → AreCandidates n r p a b c d e f
    → AreParts (others_between g p (first + a) (first + b)) (others_between g p (first + c) (first + d)) (others_between g p (first + e) (first + f))
    (others_between g p (first_chunk g i) (first_chunk g (i + 1)))
runs_of_stripe g i first n r a b c d e f p hi first_is n_is r_is are =
    let low = others_between g p (first + a) (first + b) in
    let middle = others_between g p (first + c) (first + d) in
    let high = others_between g p (first + e) (first + f) in record {
      together = sym (append_assoc low middle high)
          ∙ stripe_pushed g i first n r a b c d e f p [] low (low ++ middle) ((low ++ middle) ++ high) hi first_is n_is r_is are refl refl refl;
    }

-- a front of the first of three runs
pub in_first : (old new low middle high whole : List ℕ) → AreParts low middle high whole → AddsFront old new low → AddsFront old new whole
in_first old new low middle high whole are adds =
    subst (λ l. AddsFront old new l) are.together (longer old new low (middle ++ high) adds)

-- the first, and a front of the second
pub in_second : (old one new low middle high whole : List ℕ) → AreParts low middle high whole → one ≡ old ++ low
    → AddsFront one new middle → AddsFront old new whole
in_second old one new low middle high whole are first adds =
    subst (λ l. AddsFront old new l) are.together
    (behind old one new low (middle ++ high) first (longer one new middle high adds))

-- the first and the second, and a front of the third
pub in_third : (old one two new low middle high whole : List ℕ) → AreParts low middle high whole → one ≡ old ++ low
    → two ≡ one ++ middle → AddsFront two new high → AddsFront old new whole
in_third old one two new low middle high whole are first second adds =
    subst (λ l. AddsFront old new l) are.together
    (behind old one new low (middle ++ high) first (behind one two new middle high second adds))
