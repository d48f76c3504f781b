-- What is attached fits the board: chunks of the sky that the base asks, and pieces over none.
use Rattle.std.proofs.Common.{◌≡◌, sym, subst, ℕ, zero, suc, ◌+◌, ◌<◌, ◌≤◌, arith, List, [], ◌∷◌, All, length, map, Some, Option}
use Rattle.table_rules.specs.Objects.{Catalogue, IsCatalogue}
use Rattle.sky_rules.specs.Limits.{IsSky}
use Rattle.sky_rules.specs.Partition.{Partition, chunk_count}
use Rattle.scan_rules.specs.declared.limits.TheConstants.{QUERY_MOST}
use Rattle.sql_rules.specs.PrintedExprs.{Bytes}
use Rattle.sql_tree.specs.declared.query.Query.{Query}
use Rattle.answer_rules.specs.declared.rewritten.Rewritten.{Rewritten}
use Rattle.answer_rules.specs.Bases.{Asks, IsBase, StandsFor, query_at}
use Rattle.answer_rules.specs.Pieces.{PieceView}
use Rattle.answer_rules.proofs.Joining.{empty_piece}
use Rattle.scan_session.specs.KnownEnds.{MayStart, PlansFit}
use Rattle.scan_session.specs.declared.end.Planned.{Planned as Attachable}
use Rattle.session_rules.specs.Numbers.{numbered_from}
use Rattle.query_ends.proofs.Starting.{plans_fit}
use Rattle.query_ends.proofs.Zips.{zip_first}
use Rattle.czar.specs.Attached.{attached, base_of, chunk_query, first_object_piece}
use Rattle.czar.specs.Plans.{ArePlans, PlanFor}
use Rattle.czar.specs.Running.{IsOpen, IsSomePlan}
use Rattle.czar.specs.QueryPlans.{Plan}
use Rattle.query_ends.specs.declared.plan.QueryPlan.TheVariants.{Planned, Refused}
use Rattle.czar.proofs.Attaching.{IsSoundPlan, is_base, known_under}
use Rattle.czar.proofs.Ending.{opened, runnable, sound_chunk}

-- ---- the chunk queries are sound

sound_plan : (g : Partition) (c : Catalogue) (text : Bytes) (p : Plan) → PlanFor g c text p → IsSoundPlan (4 + length c.names) p
sound_plan g c text (Planned head query chunks) is =
    sound_chunk g c query chunks (runnable g c head query chunks (record { text = text; is = is }))
sound_plan g c text (Refused why) is = tt

pub sound_plans : (g : Partition) (c : Catalogue) (texts : List Bytes) (plans : List Plan) → ArePlans g c texts plans
    → All (IsSoundPlan (4 + length c.names)) plans
sound_plans g c [] [] are k d low = absurd (omega (arith, low))
sound_plans g c [] (p ∷ plans) are k d low = absurd are
sound_plans g c (t ∷ texts) [] are k d low = absurd are
sound_plans g c (t ∷ texts) (p ∷ plans) are zero d low = sound_plan g c t p are.0
sound_plans g c (t ∷ texts) (p ∷ plans) are (suc k) d low = sound_plans g c texts plans are.1 k d (omega (arith, low))

-- ---- the plans fit

chunks_in : (g : Partition) (c : Catalogue) (query : Rewritten) (chunks : List ℕ) → All (IsOpen g c query.chunk.shape) chunks
    → All (λ chunk. chunk < chunk_count g) chunks
chunks_in g c query chunks opens k d low = (opens k d low).there

may_start : (g : Partition) (c : Catalogue) (plans : List Plan) (q : ℕ) (head : Query) (query : Rewritten) (chunks : List ℕ)
    → IsBase (base_of g c plans) → query_at (numbered_from 1 (map chunk_query plans)) q ≡ Some query.chunk
    → IsSomePlan g c head query chunks
    → MayStart StandsFor Asks (chunk_count g) (base_of g c plans) q (record { chunks = chunks; empty = first_object_piece query })
may_start g c plans q head query chunks base known some =
    let opens = opened g c query chunks (runnable g c head query chunks some) in
    record {
      in_ring = chunks_in g c query chunks opens;
      asked = λ k d low. record {
        base = base;
        query = query.chunk;
        known = known;
        there = (opens k d low).there;
        filled = (opens k d low).filled;
        reach = (opens k d low).reach;
      };
      nothing = record {
        base = base;
        query = query.chunk;
        known = known;
        piece = empty_piece g c.objects query.chunk;
      };
    }

all_attached_fit : (g : Partition) (c : Catalogue) (texts : List Bytes) (plans : List Plan) → IsBase (base_of g c plans)
    → ArePlans g c texts plans → PlansFit StandsFor Asks (chunk_count g) (base_of g c plans) (map attached plans)
all_attached_fit g c texts plans base are =
    plans_fit first_object_piece StandsFor Asks (chunk_count g) (base_of g c plans) plans (λ i head query chunks there.
    let line = zip_first (PlanFor g c) texts plans i (Planned head query chunks) are there in
    may_start g c plans (suc i) head query chunks base (known_under plans i head query chunks there) (record { text = line.0; is = line.2 }))

-- so of the list that was made of them
pub all_fit : (g : Partition) (c : Catalogue) (texts : List Bytes) (plans : List Plan) (all : List (Option (Attachable PieceView)))
    → IsSky g → IsCatalogue c → length plans ≤ QUERY_MOST → ArePlans g c texts plans → all ≡ map attached plans
    → PlansFit StandsFor Asks (chunk_count g) (base_of g c plans) all
all_fit g c texts plans all sky rows few are made =
    subst (λ (l : List (Option (Attachable PieceView))). PlansFit StandsFor Asks (chunk_count g) (base_of g c plans) l) (sym made)
    (all_attached_fit g c texts plans (is_base g c plans sky rows few (sound_plans g c texts plans are)) are)
