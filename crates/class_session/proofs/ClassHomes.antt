-- The board of each query is that of its class.
use Rattle.std.proofs.Common.{◌≡◌, ◌∙◌, sym, ap, refl, subst, ℕ, zero, suc, List, [], ◌∷◌, Option, None, Some, Ok, Err, Result, IfOk, map, get_or, option_map}
use Rattle.table_rules.specs.Objects.{Catalogue}
use Rattle.sky_io.specs.declared.Memory.{Memory}
use Rattle.sky_rules.specs.Partition.{Partition}
use Rattle.answer_rules.specs.Bases.{Base}
use Rattle.answer_rules.specs.Pieces.{PieceView}
use Rattle.session_script.specs.declared.step.Step.{Step}
use Rattle.scan_board.specs.Calls.{BoardSeat}
use Rattle.scan_session.specs.Drove.{Drove}
use Rattle.scan_session.specs.KnownEnds.{at_query}
use Rattle.scan_session.specs.Places.{AllSuit, only, seen_of}
use Rattle.scan_session.specs.declared.end.End.{End as BoardEnd}
use Rattle.scan_session.specs.declared.end.Planned.{Planned as Attachable}
use Rattle.scan_classes.specs.declared.class.Class.{Class}
use Rattle.scan_classes.specs.declared.class.Class.TheVariants.{Short}
use Rattle.scan_classes.specs.Pairs.{class_of}
use Rattle.scan_classes.specs.QueryClasses.{QueryClasses, class_in, same_class}
use Rattle.czar.specs.Attached.{attached}
use Rattle.czar.specs.Driven.{IsDrivenBy, chunks_planned}
use Rattle.czar.specs.QueryPlans.{Plan}
use Rattle.query_ends.specs.declared.plan.QueryPlan.TheVariants.{Planned, Refused}
use Rattle.class_session.specs.ClassPlans.{class_at, class_by, class_for, classes_for, of_class}

-- a plan and what is attached for it give one class
one_class : (p : Plan) → class_for p ≡ class_by (option_map (λ x. x.chunks) (attached p))
one_class (Planned head query chunks) = refl
one_class (Refused why) = refl

-- so at each place of the list
class_there : (plans : List Plan) (i : ℕ)
    → get_or (map class_for plans) i Short ≡ class_by (option_map (λ x. x.chunks) (get_or (map attached plans) i None))
class_there [] i = refl
class_there (p ∷ plans) zero = one_class p
class_there (p ∷ plans) (suc i) = class_there plans i

class_is : (plans : List Plan) (q : ℕ) → get_or (classes_for plans) q Short ≡ class_at (chunks_planned plans) q
class_is plans zero = refl
class_is plans (suc i) = class_there plans i

-- the class of each query in the list is that of its plan
pub homes_are : (plans : List Plan) (boards : QueryClasses) → boards.classes ≡ classes_for plans
    → ◌≡◌ {A = ℕ → Class} (class_in boards) (class_at (chunks_planned plans))
homes_are plans boards is = λ κ q. (ap (λ (l : List Class). get_or l q Short) is ∙ class_is plans q) κ

-- each query is attached with chunks that make it one of its class
pub all_suit : (plans : List Plan) (boards : QueryClasses) (planned : List (Option (Attachable PieceView))) → boards.classes ≡ classes_for plans
    → planned ≡ map attached plans → AllSuit (λ q chunks. class_of chunks ≡ class_in boards q) planned
all_suit plans boards planned is made = λ q it there.
    let at : at_query (map attached plans) q ≡ Some it = subst (λ (l : List (Option (Attachable PieceView))). at_query l q ≡ Some it) made there in
    sym (ap (λ (home : ℕ → Class). home q) (homes_are plans boards is) ∙ ap (λ (o : Option (Attachable PieceView)). class_by (option_map (λ x. x.chunks) o)) at)

-- what the journals of the boards show, and how the ends are justified, by the classes of the plans
pub class_drove : {Z : Type 0} (workers : ℕ) (steps : List Step) (plans : List Plan) (boards : QueryClasses) (new : Class → BoardSeat Base)
    (r : Result Z Memory) → boards.classes ≡ classes_for plans
    → IfOk r (λ v. (p : Class) → Drove workers (only (λ q. same_class p (class_in boards q)) (chunks_planned plans)) steps (new p).seen)
    → IfOk r (λ v. (p : Class) → Drove workers (of_class p (chunks_planned plans)) steps (new p).seen)
class_drove workers steps plans boards new (Ok v) is drove = λ p.
    subst (λ (home : ℕ → Class). Drove workers (only (λ q. same_class p (home q)) (chunks_planned plans)) steps (new p).seen)
    (homes_are plans boards is) (drove p)
class_drove workers steps plans boards new (Err m) is drove = tt

pub class_driven : {Z : Type 0} (workers : ℕ) (g : Partition) (c : Catalogue) (steps : List Step) (plans : List Plan) (boards : QueryClasses)
    (new : Class → BoardSeat Base) (items : Z → List (BoardEnd PieceView)) (r : Result Z Memory) → boards.classes ≡ classes_for plans
    → IfOk r (λ v. IsDrivenBy workers g c steps plans (λ q. only (λ k. same_class (class_in boards q) (class_in boards k)) (chunks_planned plans))
    (seen_of (class_in boards) new) (items v))
    → IfOk r (λ v. IsDrivenBy workers g c steps plans (λ q. of_class (class_at (chunks_planned plans) q) (chunks_planned plans))
    (seen_of (class_at (chunks_planned plans)) new) (items v))
class_driven workers g c steps plans boards new items (Ok v) is by =
    subst (λ (home : ℕ → Class). IsDrivenBy workers g c steps plans (λ q. only (λ k. same_class (home q) (home k)) (chunks_planned plans))
    (seen_of home new) (items v)) (homes_are plans boards is) by
class_driven workers g c steps plans boards new items (Err m) is by = tt
