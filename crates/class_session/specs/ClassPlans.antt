-- What is planned for the queries of each class, and the boards of both.
use Rattle.std.specs.Prelude.{◌≡◌, ℕ, List, ◌∷◌, Option, None, Some, map}
use Rattle.table_rules.specs.Objects.{Catalogue}
use Rattle.sky_rules.specs.Partition.{Partition, chunk_count}
use Rattle.answer_rules.specs.Bases.{Base}
use Rattle.turn_lock.specs.Seats.{first_seat}
use Rattle.scan_session.specs.Places.{only}
use Rattle.scan_session.specs.Plans.{Plans}
use Rattle.scan_classes.specs.declared.class.Class.{Class}
use Rattle.scan_classes.specs.declared.class.Class.TheVariants.{Short}
use Rattle.scan_classes.specs.Pairs.{ClassTurns, PairSeat, class_of}
use Rattle.scan_classes.specs.QueryClasses.{same_class}
use Rattle.czar.specs.Attached.{base_of}
use Rattle.czar.specs.QueryPlans.{Plan}
use Rattle.query_ends.specs.declared.plan.QueryPlan.TheVariants.{Planned, Refused}

-- the class of a query by what is planned for it; one that is refused is attached to no board, and counts as short
abbrev pub class_by : Option (List ℕ) → Class
class_by None = Short
class_by (Some chunks) = class_of chunks

-- the class of a query by its number
abbrev pub class_at : Plans → ℕ → Class
class_at plan q = class_by (plan q)

-- what is planned for the queries of this class: at most 16 chunks for each short one, and more for each long one
abbrev pub of_class : Class → Plans → Plans
of_class class plan = only (λ q. same_class class (class_at plan q)) plan

-- the class of a query with this plan
abbrev pub class_for : Plan → Class
class_for (Planned head query chunks) = class_of chunks
class_for (Refused why) = Short

-- the class of each query by its number, from 0, which no query has
abbrev pub classes_for : List Plan → List Class
classes_for plans = Short ∷ map class_for plans

-- The czar's participants of both boards, for queries with these plans: nothing was attached, and no other participant
-- was made. Both boards are over all chunks of the sky plan, and their pieces are of these queries.
pub record IsFirstPair (g : Partition) (c : Catalogue) (plans : List Plan) (turns : ClassTurns) (pair : PairSeat Base)
    : Type 0 where
  pub short : pair.short ≡ first_seat turns.short (record { root = base_of g c plans; ring = chunk_count g })
  pub long : pair.long ≡ first_seat turns.long (record { root = base_of g c plans; ring = chunk_count g })
