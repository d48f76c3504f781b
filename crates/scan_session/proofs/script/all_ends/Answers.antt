use Rattle.std.proofs.Common.{◌≤◌, ◌+◌, arith, length, rules}
use Rattle.scan_session.specs.KnownEnds.{known_in}
use Rattle.scan_session.specs.Places.{DrivingAll}
use Rattle.scan_session.specs.declared.end.Outcome.TheVariants.{Went, Memory, Odd}
use Rattle.scan_session.proofs.Calling.{stays_here}
use Rattle.scan_session.proofs.Placing.{all_stay, czars_on}
use Rattle.scan_session.proofs.Listing.{learns_here, learns_on, marks_on}
use Rattle.scan_session.proofs.Looping.{goes_is, known_next}
use Rattle.scan_session.proofs.script.all_ends.Goals as goal

pub returns-in-Memory-clause-learns : goal.returns-in-Memory-clause-learns
returns-in-Memory-clause-learns g c = learns_on c.loop-place.invariant.learns c.await_end-outcome.ensures.learns

pub returns-in-Odd-clause-learns : goal.returns-in-Odd-clause-learns
returns-in-Odd-clause-learns g c = learns_on c.loop-place.invariant.learns c.await_end-outcome.ensures.learns

pub returns-in-Memory-clause-goes : goal.returns-in-Memory-clause-goes
returns-in-Memory-clause-goes g c plan done marks started d =
    let i = c.loop-place.invariant in
    let low : c.loop-place.place + 1 ≤ length c.args.ends.now = search rules in
    goes_is (DrivingAll (g.B.Boards.has c.args.scan.now.boards.now) plan done (g.B.Tasks.at c.await_end-outcome.result.1) (known_in c.await_end-outcome.new.ends)) ⊥ (g.B.Tasks.at c.await_end-outcome.result.1) c.await_end-outcome.result.0 Memory c.in-Memory.is
    (c.await_end-outcome.ensures.goes plan done (marks_on plan c.args.ends.now c.loop-place.ends i.learns.more marks) (started (c.loop-place.place + 1) (omega arith) low) (i.drives plan done marks started d))

pub returns-in-Odd-clause-goes : goal.returns-in-Odd-clause-goes
returns-in-Odd-clause-goes g c plan done marks started d =
    let i = c.loop-place.invariant in
    let low : c.loop-place.place + 1 ≤ length c.args.ends.now = search rules in
    goes_is (DrivingAll (g.B.Boards.has c.args.scan.now.boards.now) plan done (g.B.Tasks.at c.await_end-outcome.result.1) (known_in c.await_end-outcome.new.ends)) ⊥ (g.B.Tasks.at c.await_end-outcome.result.1) c.await_end-outcome.result.0 Odd c.in-Odd.is
    (c.await_end-outcome.ensures.goes plan done (marks_on plan c.args.ends.now c.loop-place.ends i.learns.more marks) (started (c.loop-place.place + 1) (omega arith) low) (i.drives plan done marks started d))

pub loop-place-init : goal.loop-place-init
loop-place-init g c = record {
  stays = λ p. stays_here g.P.Work.asks (g.B.Tasks.at c.args.seat p) (c.requires.seats.czar p);
  learns = learns_here c.args.ends.now;
  known = λ q h low. absurd (omega (arith, h, low));
  drives = λ plan done marks started d. d;
}

pub loop-place-preserved : goal.loop-place-preserved
loop-place-preserved g c =
    let i = c.loop-place.invariant in
    let low : c.loop-place.place + 1 ≤ length c.args.ends.now = search rules in
    record {
      stays = all_stay g.P.Work.asks (g.B.Tasks.at c.args.seat) (g.B.Tasks.at c.loop-place.seat) (g.B.Tasks.at c.await_end-outcome.result.1) i.stays c.await_end-outcome.ensures.stays;
      learns = learns_on i.learns c.await_end-outcome.ensures.learns;
      known = known_next c.loop-place.ends c.await_end-outcome.new.ends c.loop-place.place c.await_end-outcome.ensures.learns.more i.known (c.await_end-outcome.ensures.known c.in-Went.is);
      drives = λ plan done marks started d. goes_is (DrivingAll (g.B.Boards.has c.args.scan.now.boards.now) plan done (g.B.Tasks.at c.await_end-outcome.result.1) (known_in c.await_end-outcome.new.ends)) ⊥ (g.B.Tasks.at c.await_end-outcome.result.1) c.await_end-outcome.result.0 Went c.in-Went.is
          (c.await_end-outcome.ensures.goes plan done (marks_on plan c.args.ends.now c.loop-place.ends i.learns.more marks) (started (c.loop-place.place + 1) (omega arith) low) (i.drives plan done marks started d));
    }

pub returns-clause-known : goal.returns-clause-known
returns-clause-known g c w = record { each = λ q h low. c.loop-place.invariant.known q h (let full : length c.loop-place.ends ≤ c.loop-place.place = search rules in omega (arith, low, full)) }

pub await_end-outcome-requires-clause-seats : goal.await_end-outcome-requires-clause-seats
await_end-outcome-requires-clause-seats g c =
    czars_on g.P.Work.asks (g.B.Tasks.turn c.args.scan.now.boards.now) (g.E.Engine.root c.args.scan.now.engine.now) (g.B.Tasks.at c.args.seat) (g.B.Tasks.at c.loop-place.seat) c.requires.seats c.loop-place.invariant.stays

pub returns-in-Memory-clause-stays : goal.returns-in-Memory-clause-stays
returns-in-Memory-clause-stays g c = all_stay g.P.Work.asks (g.B.Tasks.at c.args.seat) (g.B.Tasks.at c.loop-place.seat) (g.B.Tasks.at c.await_end-outcome.result.1) c.loop-place.invariant.stays c.await_end-outcome.ensures.stays

pub returns-in-Odd-clause-stays : goal.returns-in-Odd-clause-stays
returns-in-Odd-clause-stays g c = all_stay g.P.Work.asks (g.B.Tasks.at c.args.seat) (g.B.Tasks.at c.loop-place.seat) (g.B.Tasks.at c.await_end-outcome.result.1) c.loop-place.invariant.stays c.await_end-outcome.ensures.stays
