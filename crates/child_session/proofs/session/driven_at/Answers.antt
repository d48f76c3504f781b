use Rattle.std.proofs.Common.{◌∙◌, sym, ap, subst, ℕ, ◌≤◌, arith, length}
use Rattle.std.proofs.lemmas.List.{length-map}
use Rattle.scan_rules.specs.declared.limits.TheConstants.{QUERY_MOST, RING_MOST}
use Rattle.session_script.specs.Scripts.{query_count}
use Rattle.session_script.specs.Views.{query_lines}
use Rattle.sky_rules.specs.Partition.{chunk_count}
use Rattle.child_rules.specs.ChildBases.{ChildAsks, ChildStands}
use Rattle.scan_session.specs.KnownEnds.{PlansFit}
use Rattle.scan_session.specs.declared.end.Planned.{Planned as Attachable}
use Rattle.answer_rules.specs.Pieces.{PieceView}
use Rattle.std.specs.Prelude.{List, Option}
use Rattle.child_session.specs.ChildAttached.{child_attached, child_base_of}
use Rattle.child_session.specs.ChildQueryPlans.{child_plans_of}
use Rattle.child_session.proofs.Attaching.{all_can_run, is_child_base, same_base}
use Rattle.child_session.proofs.Crossing.{board_crossing, crossing}
use Rattle.child_session.proofs.Driving.{at_board, driven}
use Rattle.child_session.proofs.EachPlan.{a_plan_each}
use Rattle.child_session.proofs.Fitting.{child_plans_fit}
use Rattle.child_session.proofs.session.driven_at.Goals as goal

pub drive-requires-send-P-Root : goal.drive-requires-send-P-Root
drive-requires-send-P-Root g c = λ κs lives. search crossing depth 60 fits 20000

pub drive-requires-sync-E : goal.drive-requires-sync-E
drive-requires-sync-E g c = λ κs lives. search crossing depth 60 fits 20000

pub drive-requires-send-B-Seat : goal.drive-requires-send-B-Seat
drive-requires-send-B-Seat g c = λ κs lives. search board_crossing depth 60 fits 20000

pub drive-requires-sync-B : goal.drive-requires-sync-B
drive-requires-sync-B g c = λ κs lives. search board_crossing depth 60 fits 20000

pub drive-requires-clause-ring : goal.drive-requires-clause-ring
drive-requires-clause-ring g c = λ κs lives p.
    subst (λ (n : ℕ). n ≤ RING_MOST) (sym (ap (λ s. s.root.ring) c.requires.seat)) c.within_limits.ensures.sky.few_chunks

pub drive-requires-clause-engine : goal.drive-requires-clause-engine
drive-requires-clause-engine g c = λ κs lives p.
    same_base c.args.session.now.world.now (child_plans_of c.args.plans.now) c.args.queries.now c.requires.queries ∙ sym (ap (λ s. s.root.root) c.requires.seat)

pub drive-requires-clause-each : goal.drive-requires-clause-each
drive-requires-clause-each g c = λ κs lives.
    let s = c.args.session.now in
    let plans = child_plans_of c.args.plans.now in
    c.args.planned.ok.0 ∙ ap length c.requires.planned ∙ length-map plans child_attached
    ∙ a_plan_each s.world.now s.script.now plans c.requires.plans ∙ ap query_count (sym c.steps.ensures.steps)

pub drive-requires-clause-few : goal.drive-requires-clause-few
drive-requires-clause-few g c = λ κs lives.
    let s = c.args.session.now in
    let plans = child_plans_of c.args.plans.now in
    omega (
      arith,
      c.args.planned.ok.0,
      ap length c.requires.planned,
      length-map plans child_attached,
      a_plan_each s.world.now s.script.now plans c.requires.plans,
      c.queries.ensures.count,
      c.queries.ensures.few,
    )

pub drive-requires-clause-fit : goal.drive-requires-clause-fit
drive-requires-clause-fit g c = λ κs lives p.
    let s = c.args.session.now in
    let plans = child_plans_of c.args.plans.now in
    let t = s.world.now in
    let limits = c.within_limits.ensures in
    let few : length plans ≤ QUERY_MOST =
    omega (arith, a_plan_each t s.script.now plans c.requires.plans, c.queries.ensures.count, c.queries.ensures.few) in
    let base = is_child_base t plans limits.sky limits.rows limits.table few
    (all_can_run c.bound_can_be_run.ensures t (query_lines s.script.now) plans limits.rows limits.table c.requires.plans) in
    subst (λ seat. PlansFit ChildStands ChildAsks seat.root.ring seat.root.root c.args.planned.items) (sym c.requires.seat)
    (subst (λ (all : List (Option (Attachable PieceView))). PlansFit ChildStands ChildAsks (chunk_count t.plan) (child_base_of t plans) all) (sym c.requires.planned)
    (child_plans_fit t (query_lines s.script.now) c.args.plans.now base c.requires.plans))

pub returns-clause-driven : goal.returns-clause-driven
returns-clause-driven g c =
    let s = c.args.session.now in
    driven s.workers s.world.now s.script.now.steps c.steps.result.now (child_plans_of c.args.plans.now) c.args.planned c.args.seat c.drive.result.1 c.drive.result.0
    c.steps.ensures.steps c.requires.planned (ap (λ s. s.root) c.requires.seat) (c.drive.ensures.manned tt) c.drive.ensures.drove c.drive.ensures.len c.drive.ensures.ends

pub returns-clause-manned : goal.returns-clause-manned
returns-clause-manned g c = c.drive.ensures.manned tt

pub returns-clause-made : goal.returns-clause-made
returns-clause-made g c = at_board _ c.drive.result.0 c.drive.ensures.made
