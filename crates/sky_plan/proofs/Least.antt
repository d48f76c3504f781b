-- The least overlap of all stripes is within the limit of overlaps.
use Rattle.std.proofs.Common.{ℕ, ◌≤◌, ◌^◌, arith, List, [], ◌∷◌, map}
use Rattle.std.specs.Prelude.{min}
use Rattle.std.specs.List.{fold}
use Rattle.std.proofs.lemmas.List.Elements.{All-head}
use Rattle.sky_rules.specs.Partition.{Stripe, Partition, least_overlap}
use Rattle.sky_rules.specs.Limits.{IsStripe, IsSky}
use Rattle.std.specs.Prelude.{All}

-- the least of a number and others is at most the number
start_most : (a : ℕ) (rest : List ℕ) → fold min a rest ≤ a
start_most a [] = omega arith
start_most a (b ∷ rest) =
    let later = start_most (min a b) rest in
    let first : min a b ≤ a = omega arith in omega (arith, first, later)

limit_by : (stripes : List Stripe) → All IsStripe stripes → least_overlap (record { stripes = stripes }) ≤ 2 ^ 24
limit_by [] each = omega arith
limit_by (s ∷ rest) each =
    let here = (All-head IsStripe s rest each).overlap in
    let later = start_most s.overlap (map (λ (t : Stripe). t.overlap) rest) in omega (arith, here, later)

-- the least overlap is within the limit
pub least_within : (g : Partition) → IsSky g → least_overlap g ≤ 2 ^ 24
least_within g sky = limit_by g.stripes sky.stripes
