-- What a session attaches for the queries of a script: for each planned one its chunks, and its piece before any chunk.
use Rattle.std.specs.Prelude.{ℕ, List, Option, None, Some, map}
use Rattle.scan_session.specs.KnownEnds.{plan_in}
use Rattle.scan_session.specs.Plans.{Plans}
use Rattle.scan_session.specs.declared.end.Planned.{Planned as Attachable}
use Rattle.query_ends.specs.declared.plan.QueryPlan.{QueryPlan}
use Rattle.query_ends.specs.declared.plan.QueryPlan.TheVariants.{Planned, Refused}

-- a query with its chunks and the piece over none; nothing is attached for one that is refused
abbrev pub attached : {Q P : Type 0} → (Q → P) → QueryPlan Q → Option (Attachable P)
attached first_piece (Planned head query chunks) = Some (record { chunks = chunks; empty = first_piece query })
attached first_piece (Refused why) = None

-- the chunks of a plan
abbrev pub chunks_in : {Q : Type 0} → QueryPlan Q → Option (List ℕ)
chunks_in (Planned head query chunks) = Some chunks
chunks_in (Refused why) = None

-- the chunks that are planned for each query, by its plan
abbrev pub planned_for : {Q P : Type 0} → (Q → P) → List (QueryPlan Q) → Plans
planned_for first_piece plans = plan_in (map (attached first_piece) plans)
