use Rattle.std.proofs.Common.{◌∙◌, sym, ap, subst, ℕ, ◌≤◌, arith, length}
use Rattle.std.proofs.lemmas.List.{length-map}
use Rattle.scan_rules.specs.declared.limits.TheConstants.{QUERY_MOST, RING_MOST}
use Rattle.session_script.specs.Scripts.{query_count}
use Rattle.session_script.specs.Views.{query_lines}
use Rattle.answer_rules.specs.Bases.{Asks, StandsFor}
use Rattle.scan_session.specs.KnownEnds.{PlansFit}
use Rattle.chunk_store.specs.Survey.{Survey}
use Rattle.czar.specs.Attached.{attached, base_over}
use Rattle.czar.proofs.Attaching.{same_base}
use Rattle.czar.proofs.Crossing.{crossing, engine_crossing}
use Rattle.czar.proofs.Driving.{driven_by, drove_over}
use Rattle.czar.proofs.Fitting.{all_fit}
use Rattle.czar.proofs.PlanBlocks.{a_plan_each}
use Rattle.scan_classes.specs.Homes.{housed}
use Rattle.scan_classes.specs.Pairs.{seat_at}
use Rattle.scan_classes.specs.QueryClasses.{class_in, same_class}
use Rattle.class_session.proofs.ClassHomes.{all_suit, class_driven, class_drove}
use Rattle.class_session.proofs.FirstPairs.{first_at}
use Rattle.class_session.proofs.session.driven_at.Goals as goal

pub drive-requires-send-P-Root : goal.drive-requires-send-P-Root
drive-requires-send-P-Root g c = λ κs lives. search crossing depth 60 fits 20000

pub drive-requires-sync-E : goal.drive-requires-sync-E
drive-requires-sync-E g c = λ κs lives. search engine_crossing depth 60 fits 20000

pub drive-requires-clause-own : goal.drive-requires-clause-own
drive-requires-clause-own g c = λ κs lives p.
    let w = c.args.session.now.world.now in
    ap (λ s. s.turn) (first_at w.plan w.rows c.args.plans.now c.args.boards.now.turns c.args.pair c.requires.first p)

pub drive-requires-clause-first : goal.drive-requires-clause-first
drive-requires-clause-first g c = λ κs lives p.
    let w = c.args.session.now.world.now in
    let first = first_at w.plan w.rows c.args.plans.now c.args.boards.now.turns c.args.pair c.requires.first p in
    (ap (λ s. s.number) first, ap (λ s. s.seen) first, ap (λ s. s.mine) first, ap (λ s. s.made) first)

pub drive-requires-clause-ring : goal.drive-requires-clause-ring
drive-requires-clause-ring g c = λ κs lives p.
    let w = c.args.session.now.world.now in
    let first = first_at w.plan w.rows c.args.plans.now c.args.boards.now.turns c.args.pair c.requires.first p in
    subst (λ (n : ℕ). n ≤ RING_MOST) (sym (ap (λ s. s.root.ring) first)) c.within_limits.ensures.sky.few_chunks

pub drive-requires-clause-engine : goal.drive-requires-clause-engine
drive-requires-clause-engine g c = λ κs lives p.
    let w = c.args.session.now.world.now in
    let first = first_at w.plan w.rows c.args.plans.now c.args.boards.now.turns c.args.pair c.requires.first p in
    ap (λ (v : Survey). base_over v.plan v.rows c.args.queries.now) c.store.ensures
    ∙ same_base w.plan w.rows c.args.plans.now c.args.queries.now c.requires.queries
    ∙ sym (ap (λ s. s.root.root) first)

pub drive-requires-clause-each : goal.drive-requires-clause-each
drive-requires-clause-each g c = λ κs lives.
    let s = c.args.session.now in
    c.args.planned.ok.0 ∙ ap length c.requires.planned ∙ length-map c.args.plans.now attached
    ∙ a_plan_each s.world.now.plan s.world.now.rows s.script.now c.args.plans.now c.requires.plans ∙ ap query_count (sym c.steps.ensures.steps)

pub drive-requires-clause-few : goal.drive-requires-clause-few
drive-requires-clause-few g c = λ κs lives.
    let s = c.args.session.now in
    omega (arith, c.args.planned.ok.0, ap length c.requires.planned, length-map c.args.plans.now attached, a_plan_each s.world.now.plan s.world.now.rows s.script.now c.args.plans.now c.requires.plans, c.queries.ensures.count, c.queries.ensures.few)

pub drive-requires-clause-fit : goal.drive-requires-clause-fit
drive-requires-clause-fit g c = λ κs lives p.
    let s = c.args.session.now in
    let first = first_at s.world.now.plan s.world.now.rows c.args.plans.now c.args.boards.now.turns c.args.pair c.requires.first p in
    let few : length c.args.plans.now ≤ QUERY_MOST =
    omega (arith, a_plan_each s.world.now.plan s.world.now.rows s.script.now c.args.plans.now c.requires.plans, c.queries.ensures.count, c.queries.ensures.few) in
    subst (λ seat. PlansFit StandsFor Asks seat.root.ring seat.root.root c.args.planned.items) (sym first)
    (all_fit s.world.now.plan s.world.now.rows (query_lines s.script.now) c.args.plans.now c.args.planned.items c.within_limits.ensures.sky c.within_limits.ensures.rows few c.requires.plans c.requires.planned)

pub drive-requires-clause-suits : goal.drive-requires-clause-suits
drive-requires-clause-suits g c = λ κs lives. all_suit c.args.plans.now c.args.boards.now c.args.planned.items c.requires.classes c.requires.planned

pub returns-clause-manned : goal.returns-clause-manned
returns-clause-manned g c = c.drive.ensures.manned

pub returns-clause-drove : goal.returns-clause-drove
returns-clause-drove g c =
    let s = c.args.session.now in
    let boards = c.args.boards.now in
    let new = seat_at c.drive.result.1 in
    class_drove s.workers s.script.now.steps c.args.plans.now boards new c.drive.result.0 c.requires.classes
    (drove_over s.workers s.script.now.steps c.steps.result.now c.args.plans.now c.args.planned (λ class q. same_class class (class_in boards q)) new c.drive.result.0
    c.steps.ensures.steps c.requires.planned c.drive.ensures.drove)

pub returns-clause-driven : goal.returns-clause-driven
returns-clause-driven g c =
    let s = c.args.session.now in
    let w = s.world.now in
    let boards = c.args.boards.now in
    let new = seat_at c.drive.result.1 in
    class_driven s.workers w.plan w.rows s.script.now.steps c.args.plans.now boards new (λ v. v.items) c.drive.result.0 c.requires.classes
    (driven_by s.workers w.plan w.rows s.script.now.steps c.steps.result.now c.args.plans.now c.args.planned
    (λ class q. same_class class (class_in boards q)) (class_in boards) (seat_at c.args.pair) new c.drive.result.0
    c.steps.ensures.steps c.requires.planned (λ p. ap (λ s. s.root) (first_at w.plan w.rows c.args.plans.now boards.turns c.args.pair c.requires.first p))
    (housed boards) c.drive.ensures.manned c.drive.ensures.drove c.drive.ensures.len c.drive.ensures.ends)

pub returns-clause-made : goal.returns-clause-made
returns-clause-made g c = c.drive.ensures.made
