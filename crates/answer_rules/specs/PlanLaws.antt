-- Lemmas about plans: which chunks a plan lists, that a join that is not refused is within the overlap, and how an
-- index decides a test of ids.
use Rattle.std.specs.Prelude.{◌≡◌, ◌<◌, ℕ, ℤ, true, List, [], ◌∷◌, None, All, AllPairs}
use Rattle.std.specs.List.{list_any}
use Rattle.table_rules.specs.Objects.{Obj, IdsAscend}
use Rattle.sky_rules.specs.Limits.{IsSky}
use Rattle.sky_rules.specs.Partition.{Partition, chunk_count}
use Rattle.chunk_rules.specs.Filled.{is_filled}
use Rattle.sql_bound.specs.declared.query.Bound.{Bound}
use Rattle.sql_bound.specs.declared.query.Shape.{Shape}
use Rattle.answer_rules.specs.Coverage.{AreInTheSky}
use Rattle.answer_rules.specs.Picks.{is_there_among}
use Rattle.answer_rules.specs.Plans.{holds_id, chunk_of_id, plan_of, overlap_of, radius_by, radius_refusal, Reaches}

-- each chunk of a plan is a chunk of the sky that holds a row
abbrev pub PlanIsFilled : Type 0
PlanIsFilled =
    (g : Partition) (table : List Obj) (q : Bound)
    → All (λ c. (c < chunk_count g) × (is_filled g table c ≡ true)) (plan_of g table q)

-- the chunks of a plan ascend
abbrev pub PlanAscends : Type 0
PlanAscends = (g : Partition) (table : List Obj) (q : Bound) → AllPairs (λ a b. a < b) (plan_of g table q)

-- the limit of a query that is not refused for its radius is within the overlap at every chunk of its plan
abbrev pub RadiusReaches : Type 0
RadiusReaches =
    (g : Partition) (table : List Obj) (q : Bound) → radius_refusal g table q ≡ None
    → All (Reaches g q.shape) (plan_of g table q)

-- a query that is not refused over the overlap of some chunks has its limit within the overlap at each of them
abbrev pub RadiusReachesOver : Type 0
RadiusReachesOver =
    (g : Partition) (shape : Shape) (chunks : List ℕ) → radius_by shape (overlap_of g chunks) ≡ None
    → All (Reaches g shape) chunks

-- a chunk holds a row with one of the ids exactly if it is the chunk of one of them
abbrev pub IdsByTheirChunks : Type 0
IdsByTheirChunks =
    (g : Partition) (table : List Obj) (c : ℕ) (ids : List ℤ) → IsSky g → AreInTheSky table → IdsAscend table
    → c < chunk_count g
    → holds_id g table c ids ≡ list_any (λ id. is_there_among (c ∷ []) (chunk_of_id g table id)) ids
