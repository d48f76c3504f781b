use Rattle.std.proofs.Common.{sym, ap, ◌∙◌, subst, ℕ, ◌≤◌, arith, length}
use Rattle.std.proofs.lemmas.List.{length-map}
use Rattle.scan_rules.specs.declared.limits.TheConstants.{QUERY_MOST, RING_MOST}
use Rattle.session_script.specs.Scripts.{query_count}
use Rattle.session_script.specs.Views.{query_lines}
use Rattle.sky_rules.specs.Partition.{chunk_count}
use Rattle.answer_rules.specs.Bases.{Asks, Base, StandsFor}
use Rattle.scan_session.specs.KnownEnds.{PlansFit}
use Rattle.chunk_store.specs.Survey.{Survey}
use Rattle.czar.specs.Attached.{attached, base_over}
use Rattle.czar.proofs.Attaching.{same_base}
use Rattle.czar.proofs.Crossing.{crossing, engine_crossing}
use Rattle.czar.proofs.Driving.{of_value, over}
use Rattle.czar.proofs.Fitting.{all_fit}
use Rattle.czar.proofs.PlanBlocks.{a_plan_each}
use Rattle.czar.proofs.session.SessionContext.driven_at.Goals as goal

pub drive-ends-requires-send-P-Root : goal.drive-ends-requires-send-P-Root
drive-ends-requires-send-P-Root g c = λ κs lives. search crossing depth 60 fits 20000

pub drive-ends-requires-sync-E : goal.drive-ends-requires-sync-E
drive-ends-requires-sync-E g c = λ κs lives. search engine_crossing depth 60 fits 20000

pub drive-ends-requires-clause-ring : goal.drive-ends-requires-clause-ring
drive-ends-requires-clause-ring g c = λ κs lives p.
    subst (λ (n : ℕ). n ≤ RING_MOST) (sym (ap (λ s. s.root.ring) c.requires.seat)) c.within_limits.ensures.sky.few_chunks

pub drive-ends-requires-clause-engine : goal.drive-ends-requires-clause-engine
drive-ends-requires-clause-engine g c = λ κs lives p.
    ap (λ (w : Survey). base_over w.plan w.rows c.args.queries.now) c.store.ensures ∙ sym (ap (λ s. s.root.root) c.requires.seat)

pub drive-ends-requires-clause-each : goal.drive-ends-requires-clause-each
drive-ends-requires-clause-each g c = λ κs lives.
    let s = c.args.self.now in
    c.args.planned.ok.0 ∙ ap length c.requires.planned ∙ length-map c.args.plans.now attached
    ∙ a_plan_each s.world.now.plan s.world.now.rows s.script.now c.args.plans.now c.requires.plans ∙ ap query_count (sym c.steps.ensures.steps)

pub drive-ends-requires-clause-few : goal.drive-ends-requires-clause-few
drive-ends-requires-clause-few g c = λ κs lives.
    let s = c.args.self.now in
    omega (arith, c.args.planned.ok.0, ap length c.requires.planned, length-map c.args.plans.now attached, a_plan_each s.world.now.plan s.world.now.rows s.script.now c.args.plans.now c.requires.plans, c.queries.ensures.count, c.queries.ensures.few)

pub drive-ends-requires-clause-fit : goal.drive-ends-requires-clause-fit
drive-ends-requires-clause-fit g c = λ κs lives p.
    let s = c.args.self.now in
    let few : length c.args.plans.now ≤ QUERY_MOST =
    omega (arith, a_plan_each s.world.now.plan s.world.now.rows s.script.now c.args.plans.now c.requires.plans, c.queries.ensures.count, c.queries.ensures.few) in
    subst (λ seat. PlansFit StandsFor Asks seat.root.ring seat.root.root c.args.planned.items) (sym c.requires.seat)
    (subst (λ (b : Base). PlansFit StandsFor Asks (chunk_count s.world.now.plan) b c.args.planned.items)
    (sym (same_base s.world.now.plan s.world.now.rows c.args.plans.now c.args.queries.now c.requires.queries))
    (all_fit s.world.now.plan s.world.now.rows (query_lines s.script.now) c.args.plans.now c.args.planned.items c.within_limits.ensures.sky c.within_limits.ensures.rows few c.requires.plans c.requires.planned))

pub returns-in-Ok-clause-own : goal.returns-in-Ok-clause-own
returns-in-Ok-clause-own g c = (c.drive-ends.ensures.manned tt).turn ∙ ap (λ s. s.turn) c.requires.seat

pub returns-in-Ok-clause-over : goal.returns-in-Ok-clause-over
returns-in-Ok-clause-over g c =
    let s = c.args.self.now in
    of_value _ c.in-Ok.is (over s.workers s.world.now.plan s.world.now.rows s.script.now.steps c.steps.result.now c.args.plans.now c.args.planned c.args.seat c.drive-ends.result.1 _
    c.steps.ensures.steps c.requires.planned (ap (λ s. s.made) c.requires.seat)
    (ap (λ s. s.root) c.requires.seat
    ∙ ap (λ (b : Base). record { root = b; ring = chunk_count s.world.now.plan })
    (same_base s.world.now.plan s.world.now.rows c.args.plans.now c.args.queries.now c.requires.queries)) (c.drive-ends.ensures.manned tt) c.drive-ends.ensures.drove c.drive-ends.ensures.len c.drive-ends.ensures.ends)
