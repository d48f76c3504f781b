-- What is attached fits the board: chunks of the sky that the root asks, and pieces over none.
use Rattle.std.proofs.Common.{◌≡◌, sym, subst, ℕ, ◌<◌, List, Option, All, map, true}
use Rattle.sky_rules.specs.Partition.{chunk_count}
use Rattle.chunk_rules.specs.Filled.{is_filled}
use Rattle.sql_bound.specs.declared.query.Bound.{Bound}
use Rattle.sql_rules.specs.PrintedExprs.{Bytes}
use Rattle.sql_tree.specs.declared.query.Query.{Query}
use Rattle.answer_rules.specs.Pieces.{PieceView}
use Rattle.answer_rules.proofs.Planned.{plan_is_filled}
use Rattle.scan_session.specs.KnownEnds.{PlansFit}
use Rattle.scan_session.specs.declared.end.Planned.{Planned as Attachable}
use Rattle.child_rules.specs.declared.bound.ChildBound.{ChildBound}
use Rattle.child_rules.specs.ChildBases.{ChildAsks, ChildStands, IsChildBase}
use Rattle.child_rules.proofs.Joined.{empty_child_piece}
use Rattle.child_session.specs.ChildAttached.{child_attached, child_base_of, first_child_piece}
use Rattle.child_session.specs.ChildPlans.{AreChildPlans, ChildPlanFor, IsChildPlanned}
use Rattle.child_session.specs.ChildSurvey.{ChildSurvey}
use Rattle.child_session.specs.ChildQueryPlans.{child_plan_of, child_plans_of}
use Rattle.query_ends.specs.declared.plan.QueryPlan.{QueryPlan}
use Rattle.query_ends.specs.declared.plan.QueryPlan.TheVariants.{Planned}
use Rattle.query_ends.proofs.Starting.{plans_fit}
use Rattle.child_session.proofs.Attaching.{known_under}
use Rattle.child_session.proofs.PlansOfForm.{all_attached_for, planned_at}
use Rattle.query_ends.proofs.Zips.{zip_first}

-- each chunk of a plan is one of the sky and has an object
filled : (t : ChildSurvey) (text : Bytes) (head : Query) (bound : Bound) (chunks : List ℕ) → IsChildPlanned t text head bound chunks
    → All (λ c. (c < chunk_count t.plan) × (is_filled t.plan t.rows.objects c ≡ true)) chunks
filled t text head bound chunks is =
    subst (λ (cs : List ℕ). All (λ c. (c < chunk_count t.plan) × (is_filled t.plan t.rows.objects c ≡ true)) cs) (sym is.plan)
    (plan_is_filled t.plan t.rows.objects bound)

pub child_plans_fit : (t : ChildSurvey) (texts : List Bytes) (plans : List (QueryPlan ChildBound)) → IsChildBase (child_base_of t (child_plans_of plans))
    → AreChildPlans t texts (child_plans_of plans)
    → PlansFit ChildStands ChildAsks (chunk_count t.plan) (child_base_of t (child_plans_of plans)) (map child_attached (child_plans_of plans))
child_plans_fit t texts plans base are =
    subst (λ (all : List (Option (Attachable PieceView))). PlansFit ChildStands ChildAsks (chunk_count t.plan) (child_base_of t (child_plans_of plans)) all)
    (sym (all_attached_for plans))
    (plans_fit first_child_piece ChildStands ChildAsks (chunk_count t.plan) (child_base_of t (child_plans_of plans)) plans (λ i head query chunks there.
    let here = planned_at plans i (Planned head query chunks) there in
    let line = zip_first (ChildPlanFor t) texts (child_plans_of plans) i (child_plan_of (Planned head query chunks)) are here in
    let fill = filled t line.0 head query.bound chunks line.2 in
    let known = known_under (child_plans_of plans) i head query chunks here in
    record {
      in_ring = λ k d low. (fill k d low).0;
      asked = λ k d low. record {
        base = base;
        query = query;
        known = known;
        there = (fill k d low).0;
        filled = (fill k d low).1;
      };
      nothing = record {
        base = base;
        query = query;
        known = known;
        piece = empty_child_piece t.plan t.rows.objects t.table.sources query.bound;
      };
    }))
