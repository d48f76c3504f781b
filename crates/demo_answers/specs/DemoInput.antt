-- What the demo's sky plan and its script say.
use Rattle.std.specs.Prelude.{ℕ, ℤ, pos, negsuc, List, [], ◌∷◌}
use Rattle.session_script.specs.declared.step.Step.{Step}
use Rattle.session_script.specs.declared.step.Step.TheVariants as step
use Rattle.sky_rules.specs.Partition.{Partition, Stripe}

-- a stripe of one chunk around a pole
abbrev pub cap : ℤ → Stripe
cap z_low = record { z_low = z_low; chunks = 1; columns = 8; rows = 4; overlap = 65536 }

-- a stripe of sixteen chunks beside the equator
abbrev pub belt : ℤ → Stripe
belt z_low = record { z_low = z_low; chunks = 16; columns = 4; rows = 4; overlap = 65536 }

-- the partition: two belts between two caps
abbrev pub demo_plan : Partition
demo_plan = record {
  stripes = cap (negsuc 268435471) ∷ belt (negsuc 134217727) ∷ belt (pos 0) ∷ cap (pos 134217728) ∷ [];
}

-- the query with this number, from one byte of the script up to another
abbrev pub query : (number from to : ℕ) → Step
query number from to = step.Query number (record { from = from; to = to })

-- the steps: a query a line
abbrev pub demo_steps : List Step
demo_steps = query 1 0 61 ∷ query 2 62 129 ∷ query 3 130 223 ∷ query 4 224 339 ∷ []
