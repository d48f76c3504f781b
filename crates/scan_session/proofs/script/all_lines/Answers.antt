use Rattle.std.proofs.Common.{◌≡◌, ◌≤◌, arith, length, take, ◌∙◌, subst, sym, List}
use Rattle.scan_rules.specs.declared.limits.TheConstants.{QUERY_MOST}
use Rattle.session_script.specs.declared.step.Step.{Step}
use Rattle.session_script.specs.declared.step.Step.TheVariants.{Query}
use Rattle.scan_session.specs.Places.{DrivingAll, GoingAll}
use Rattle.scan_session.specs.KnownEnds.{known_in, Ready}
use Rattle.scan_session.specs.declared.end.Outcome.TheVariants.{Went, Memory, Odd}
use Rattle.scan_session.proofs.Calling.{stays_here}
use Rattle.scan_session.proofs.Placing.{all_stay, czars_on}
use Rattle.scan_session.proofs.Listing.{learns_here, learns_on, marks_on}
use Rattle.scan_session.proofs.Looping.{goes_is, next_at, from_1_at, low_at, stops_at, take_next, take_whole}
use Rattle.scan_session.proofs.script.all_lines.Goals as goal

pub line-outcome-requires-clause-from_1 : goal.line-outcome-requires-clause-from_1
line-outcome-requires-clause-from_1 g c = from_1_at _ c.args.steps.now c.loop-step.step-index _ c.requires.script c.loop-step-test.true

pub line-outcome-requires-clause-low : goal.line-outcome-requires-clause-low
line-outcome-requires-clause-low g c =
    let low = low_at (length c.args.ends.now) c.args.steps.now c.loop-step.step-index (Query 0 (record { from = 0; to = 0 })) c.requires.script c.loop-step-test.true in
    let len = c.loop-step.invariant.learns.more.len in
    omega (arith, low, len)

pub returns-in-Memory-clause-learns : goal.returns-in-Memory-clause-learns
returns-in-Memory-clause-learns g c = learns_on c.loop-step.invariant.learns c.line-outcome.ensures.learns

pub returns-in-Memory-clause-stays : goal.returns-in-Memory-clause-stays
returns-in-Memory-clause-stays g c = all_stay g.P.Work.asks (g.B.Tasks.at c.args.seat) (g.B.Tasks.at c.loop-step.seat) (g.B.Tasks.at c.line-outcome.result.1) c.loop-step.invariant.stays c.line-outcome.ensures.stays

pub returns-in-Memory-clause-goes : goal.returns-in-Memory-clause-goes
returns-in-Memory-clause-goes g c plan marks ready d =
    let i = c.loop-step.invariant in
    stops_at (g.B.Boards.has c.args.scan.now.boards.now) (g.B.Boards.home c.args.scan.now.boards.now) plan c.args.steps.now c.loop-step.step-index _ (g.B.Tasks.at c.line-outcome.result.1) (known_in c.line-outcome.new.ends) c.loop-step-test.true
    (goes_is _ _ (g.B.Tasks.at c.line-outcome.result.1) c.line-outcome.result.0 Memory c.in-Memory.is
    (c.line-outcome.ensures.goes plan (take c.loop-step.step-index c.args.steps.now) (next_at _ c.args.steps.now c.loop-step.step-index _ c.requires.script c.loop-step-test.true) (marks_on plan c.args.ends.now c.loop-step.ends i.learns.more marks) (i.ready plan ready) (i.drives plan marks ready d)))

pub returns-in-Odd-clause-goes : goal.returns-in-Odd-clause-goes
returns-in-Odd-clause-goes g c plan marks ready d =
    let i = c.loop-step.invariant in
    goes_is _ _ (g.B.Tasks.at c.line-outcome.result.1) c.line-outcome.result.0 Odd c.in-Odd.is
    (c.line-outcome.ensures.goes plan (take c.loop-step.step-index c.args.steps.now) (next_at _ c.args.steps.now c.loop-step.step-index _ c.requires.script c.loop-step-test.true) (marks_on plan c.args.ends.now c.loop-step.ends i.learns.more marks) (i.ready plan ready) (i.drives plan marks ready d))

pub returns-in-Odd-clause-learns : goal.returns-in-Odd-clause-learns
returns-in-Odd-clause-learns g c = learns_on c.loop-step.invariant.learns c.line-outcome.ensures.learns

pub returns-in-Odd-clause-stays : goal.returns-in-Odd-clause-stays
returns-in-Odd-clause-stays g c = all_stay g.P.Work.asks (g.B.Tasks.at c.args.seat) (g.B.Tasks.at c.loop-step.seat) (g.B.Tasks.at c.line-outcome.result.1) c.loop-step.invariant.stays c.line-outcome.ensures.stays

pub line-outcome-requires-clause-few : goal.line-outcome-requires-clause-few
line-outcome-requires-clause-few g c = subst (λ n. n ≤ QUERY_MOST) (sym c.loop-step.invariant.learns.more.len) c.requires.few

pub line-outcome-requires-clause-len : goal.line-outcome-requires-clause-len
line-outcome-requires-clause-len g c = c.loop-step.invariant.len ∙ sym c.loop-step.invariant.learns.more.len

pub loop-step-init : goal.loop-step-init
loop-step-init g c = record {
  stays = λ p. stays_here g.P.Work.asks (g.B.Tasks.at c.args.seat p) (c.requires.seats.czar p);
  learns = learns_here c.args.ends.now;
  len = c.requires.len;
  fit = c.requires.fit;
  ready = λ plan ready. ready;
  drives = λ plan marks ready d. d;
}

pub loop-step-preserved : goal.loop-step-preserved
loop-step-preserved g c =
    let i = c.loop-step.invariant in
    let next = next_at _ c.args.steps.now c.loop-step.step-index _ c.requires.script c.loop-step-test.true in
    let more = take_next c.args.steps.now c.loop-step.step-index _ c.loop-step-test.true in
    record {
      stays = all_stay g.P.Work.asks (g.B.Tasks.at c.args.seat) (g.B.Tasks.at c.loop-step.seat) (g.B.Tasks.at c.line-outcome.result.1) i.stays c.line-outcome.ensures.stays;
      learns = learns_on i.learns c.line-outcome.ensures.learns;
      len = c.line-outcome.ensures.len ∙ i.len;
      fit = c.line-outcome.ensures.fit;
      ready = λ plan ready. subst (λ (l : List Step). Ready plan l c.line-outcome.new.plans) more (c.line-outcome.ensures.ready plan (take c.loop-step.step-index c.args.steps.now) (i.ready plan ready));
      drives = λ plan marks ready d. subst (λ (l : List Step). GoingAll (g.B.Boards.has c.args.scan.now.boards.now) plan l (g.B.Tasks.at c.line-outcome.result.1) (known_in c.line-outcome.new.ends)) more
          (goes_is _ _ (g.B.Tasks.at c.line-outcome.result.1) c.line-outcome.result.0 Went c.in-Went.is
          (c.line-outcome.ensures.goes plan (take c.loop-step.step-index c.args.steps.now) next (marks_on plan c.args.ends.now c.loop-step.ends i.learns.more marks) (i.ready plan ready) (i.drives plan marks ready d)));
    }

pub returns-clause-goes : goal.returns-clause-goes
returns-clause-goes g c plan marks ready d =
    let off = c.loop-step-test.false in
    let all : take c.loop-step.step-index c.args.steps.now ≡ c.args.steps.now = take_whole c.args.steps.now c.loop-step.step-index (λ lt. absurd (omega (arith, lt, off))) in
    subst (λ (l : List Step). DrivingAll (g.B.Boards.has c.args.scan.now.boards.now) plan l (g.B.Tasks.at c.loop-step.seat) (known_in c.loop-step.ends)) all (λ p. (c.loop-step.invariant.drives plan marks ready d p).drives)

pub line-outcome-requires-clause-seats : goal.line-outcome-requires-clause-seats
line-outcome-requires-clause-seats g c =
    czars_on g.P.Work.asks (g.B.Tasks.turn c.args.scan.now.boards.now) (g.E.Engine.root c.args.scan.now.engine.now) (g.B.Tasks.at c.args.seat) (g.B.Tasks.at c.loop-step.seat) c.requires.seats c.loop-step.invariant.stays
