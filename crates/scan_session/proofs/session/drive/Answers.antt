use Rattle.std.proofs.Common.{◌≡◌, ◌+◌, ◌≤◌, ℕ, length, sym, subst, rules, arith, ◌∙◌, ap}
use Rattle.session_script.specs.Scripts.{query_count}
use Rattle.scan_worker.specs.Missing.{MayLose}
use Rattle.scan_session.specs.Places.{over_root}
use Rattle.scan_session.specs.KnownEnds.{plan_in, known_in, MarksPlans}
use Rattle.scan_session.specs.Crews.{Promises}
use Rattle.scan_session.specs.declared.end.Outcome.{Outcome}
use Rattle.scan_session.proofs.Ending.{script_of, session_ends, session_promises}
use Rattle.scan_session.proofs.Manning.{manned_alone}
use Rattle.scan_session.proofs.Finishing.{first_czars}
use Rattle.scan_session.proofs.Spending.{spends_only}
use Rattle.scan_session.proofs.session.drive.Goals as goal

pub close-requires : goal.close-requires
close-requires g c = first_czars g.P.Work.asks (g.B.Tasks.turn c.args.scan.now.boards.now) (g.E.Engine.root c.args.scan.now.engine.now) (g.B.Tasks.at c.args.seat) c.requires.own c.requires.first c.requires.ring c.requires.engine

pub close-requires-in_default-first_ends : goal.close-requires-in_default-first_ends
close-requires-in_default-first_ends g c = first_czars g.P.Work.asks (g.B.Tasks.turn c.args.scan.now.boards.now) (g.E.Engine.root c.args.scan.now.engine.now) (g.B.Tasks.at c.args.seat) c.requires.own c.requires.first c.requires.ring c.requires.engine

pub teamed-outcome-requires-clause-may : goal.teamed-outcome-requires-clause-may
teamed-outcome-requires-clause-may g c κs within =
    let plans = c.args.plans.items in
    let ends = c.in-Ok-first_ends.ends.items in
    let len : length ends ≡ length plans = search rules in
    let each : length plans ≡ query_count c.args.steps.now = search rules in
    let few : length plans ≤ 255 = search rules in
    record {
      seats = first_czars g.P.Work.asks (g.B.Tasks.turn c.args.scan.now.boards.now) (g.E.Engine.root c.args.scan.now.engine.now) (g.B.Tasks.at c.args.seat) c.requires.own c.requires.first c.requires.ring c.requires.engine;
      script = script_of (length ends) c.args.steps.now c.requires.numbered (len ∙ each);
      len = sym len;
      few = omega (arith, len, few);
      fit = record { fit = c.requires.fit; suit = c.requires.suits };
    }

pub teamed-outcome-requires-clause-split : goal.teamed-outcome-requires-clause-split
teamed-outcome-requires-clause-split g c κs within p =
    record { from_1 = omega (arith, (c.requires.first p).3); room = omega (arith, (c.requires.first p).3, c.requires.workers) }

pub returns-in-Went-clause-drove : goal.returns-in-Went-clause-drove
returns-in-Went-clause-drove g c place =
    let first = c.in-Ok-first_ends.ends.items in
    let plans = c.args.plans.items in
    let boards = c.args.scan.now.boards.now in
    let has = g.B.Boards.has boards in
    let home = g.B.Boards.home boards in
    let new = g.B.Tasks.at c.teamed-outcome.result.2 in
    let marks : MarksPlans plans first = search rules in
    let each : length plans ≡ query_count c.args.steps.now = search rules in
    let len : length first ≡ length plans = search rules in
    let m = c.teamed-outcome in
    let p = session_promises g.P.Work.asks g.P.Work.stands c.args.workers (MayLose (g.E.Engine.refused c.args.scan.now.engine.now) (g.E.Engine.unlisted c.args.scan.now.engine.now (g.E.Engine.refused c.args.scan.now.engine.now)) g.P.Work.refuses (g.P.Work.stands (g.E.Engine.root c.args.scan.now.engine.now))) has home (g.B.Tasks.at c.args.seat) new plans first m.result.1.items c.args.steps.now m.result.0 c.requires.numbered each len marks m.ensures.manned m.ensures.ran
    (λ p. (c.requires.first p).3) (λ p. (c.requires.first p).1) in
    (subst (λ (r : Outcome). Promises c.args.workers has (plan_in plans) c.args.steps.now new (known_in m.result.1.items) r) c.in-Went.is p place).0

pub returns-in-Went-clause-ends : goal.returns-in-Went-clause-ends
returns-in-Went-clause-ends g c =
    let boards = c.args.scan.now.boards.now in
    let first = c.in-Ok-first_ends.ends.items in
    let plans = c.args.plans.items in
    let has = g.B.Boards.has boards in
    let home = g.B.Boards.home boards in
    let new = g.B.Tasks.at c.teamed-outcome.result.2 in
    let marks : MarksPlans plans first = search rules in
    let each : length plans ≡ query_count c.args.steps.now = search rules in
    let len : length first ≡ length plans = search rules in
    let m = c.teamed-outcome in
    let p = session_promises g.P.Work.asks g.P.Work.stands c.args.workers (MayLose (g.E.Engine.refused c.args.scan.now.engine.now) (g.E.Engine.unlisted c.args.scan.now.engine.now (g.E.Engine.refused c.args.scan.now.engine.now)) g.P.Work.refuses (g.P.Work.stands (g.E.Engine.root c.args.scan.now.engine.now))) has home (g.B.Tasks.at c.args.seat) new plans first m.result.1.items c.args.steps.now m.result.0 c.requires.numbered each len marks m.ensures.manned m.ensures.ran
    (λ p. (c.requires.first p).3) (λ p. (c.requires.first p).1) in
    session_ends g.P.Work.asks g.P.Work.stands c.args.workers (MayLose (g.E.Engine.refused c.args.scan.now.engine.now) (g.E.Engine.unlisted c.args.scan.now.engine.now (g.E.Engine.refused c.args.scan.now.engine.now)) g.P.Work.refuses (g.P.Work.stands (g.E.Engine.root c.args.scan.now.engine.now))) has home (g.B.Tasks.at c.args.seat) new plans first m.result.1.items c.args.steps.now m.result.0 c.requires.numbered each len marks m.ensures.manned m.ensures.ran
    c.known_ends.result.items ((g.met.B.Boards g.world.𝓛 g.world.𝓜 g.world.𝓡 ((λ s x. x), (λ x. x), (λ x. x), λ x. x)).housed boards)
    (subst (λ (r : Outcome). Promises c.args.workers has (plan_in plans) c.args.steps.now new (known_in m.result.1.items) r) c.in-Went.is p) c.known_ends.ensures

pub returns-in-Went-clause-spent : goal.returns-in-Went-clause-spent
returns-in-Went-clause-spent g c =
    let home = g.B.Boards.home c.args.scan.now.boards.now in
    let old = g.B.Tasks.at c.args.seat in
    let may = MayLose (g.E.Engine.refused c.args.scan.now.engine.now) (g.E.Engine.unlisted c.args.scan.now.engine.now (g.E.Engine.refused c.args.scan.now.engine.now)) g.P.Work.refuses (g.P.Work.stands (g.E.Engine.root c.args.scan.now.engine.now)) in
    spends_only g.P.Work.asks may c.args.workers (over_root g.P.Work.stands home old) (plan_in c.args.plans.items) home old (g.B.Tasks.at c.teamed-outcome.result.2) c.known_ends.result.items
    (λ p. (c.requires.first p).3) (λ p. (c.requires.first p).2) c.teamed-outcome.ensures.manned (returns-in-Went-clause-ends g c)

pub unreachable-requires : goal.unreachable-requires
unreachable-requires g c =
    let first = c.in-Ok-first_ends.ends.items in
    let plans = c.args.plans.items in
    let boards = c.args.scan.now.boards.now in
    let has = g.B.Boards.has boards in
    let home = g.B.Boards.home boards in
    let new = g.B.Tasks.at c.teamed-outcome.result.2 in
    let marks : MarksPlans plans first = search rules in
    let each : length plans ≡ query_count c.args.steps.now = search rules in
    let len : length first ≡ length plans = search rules in
    let m = c.teamed-outcome in
    let p = session_promises g.P.Work.asks g.P.Work.stands c.args.workers (MayLose (g.E.Engine.refused c.args.scan.now.engine.now) (g.E.Engine.unlisted c.args.scan.now.engine.now (g.E.Engine.refused c.args.scan.now.engine.now)) g.P.Work.refuses (g.P.Work.stands (g.E.Engine.root c.args.scan.now.engine.now))) has home (g.B.Tasks.at c.args.seat) new plans first m.result.1.items c.args.steps.now m.result.0 c.requires.numbered each len marks m.ensures.manned m.ensures.ran
    (λ p. (c.requires.first p).3) (λ p. (c.requires.first p).1) in
    subst (λ (r : Outcome). Promises c.args.workers has (plan_in plans) c.args.steps.now new (known_in m.result.1.items) r) c.in-Odd.is p

pub returns-in-Went-clause-made : goal.returns-in-Went-clause-made
returns-in-Went-clause-made g c p = (c.teamed-outcome.ensures.manned p).made ∙ ap (λ (n : ℕ). n + c.args.workers) (c.requires.first p).3

pub returns-in-Went-clause-manned : goal.returns-in-Went-clause-manned
returns-in-Went-clause-manned g c p = (c.teamed-outcome.ensures.manned p).manned

pub returns-in-Memory-clause-manned : goal.returns-in-Memory-clause-manned
returns-in-Memory-clause-manned g c p = (c.teamed-outcome.ensures.manned p).manned

pub returns-in_default-clause-manned : goal.returns-in_default-clause-manned
returns-in_default-clause-manned g c p = manned_alone g.P.Work.asks (g.B.Tasks.at c.args.seat p) (g.B.Tasks.at c.close.result p) (c.close.ensures.stays p) (c.close.ensures.closed p) (c.close.ensures.known p)

pub returns-in_default-first_ends-clause-manned : goal.returns-in_default-first_ends-clause-manned
returns-in_default-first_ends-clause-manned g c p =
    let closed = c.close-in_default-first_ends in
    manned_alone g.P.Work.asks (g.B.Tasks.at c.args.seat p) (g.B.Tasks.at closed.result p) (closed.ensures.stays p) (closed.ensures.closed p) (closed.ensures.known p)
