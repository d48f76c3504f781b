use Rattle.std.proofs.Common.{◌≤◌, arith, subst, sym}
use Rattle.scan_rules.specs.declared.limits.TheConstants.{QUERY_MOST}
use Rattle.scan_session.specs.declared.end.Outcome.TheVariants.{Went, Memory, Odd}
use Rattle.scan_session.proofs.Listing.{learns_on, marks_on}
use Rattle.scan_session.proofs.Looping.{goes_is, never_stops}
use Rattle.scan_session.proofs.Placing.{all_stay, czars_on}
use Rattle.scan_session.proofs.czar.whole.Goals as goal

pub returns-in-Went-clause-goes : goal.returns-in-Went-clause-goes
returns-in-Went-clause-goes g c plan marks ready d =
    let len = c.all_lines-outcome.ensures.learns.more.len in
    never_stops _ _ (g.B.Tasks.at c.all_ends.result.1) c.all_ends.result.0 (c.all_ends.ensures.goes plan c.args.steps.now (marks_on plan c.args.ends.now c.all_lines-outcome.new.ends c.all_lines-outcome.ensures.learns.more marks)
    (λ q h low. c.requires.script.all q h (omega (arith, low, len)))
    (goes_is _ _ (g.B.Tasks.at c.all_lines-outcome.result.1) c.all_lines-outcome.result.0 Went c.in-Went.is (c.all_lines-outcome.ensures.goes plan marks ready d)))

pub returns-in-Went-clause-learns : goal.returns-in-Went-clause-learns
returns-in-Went-clause-learns g c = learns_on c.all_lines-outcome.ensures.learns c.all_ends.ensures.learns

pub returns-in-Went-clause-stays : goal.returns-in-Went-clause-stays
returns-in-Went-clause-stays g c = all_stay g.P.Work.asks (g.B.Tasks.at c.args.seat) (g.B.Tasks.at c.all_lines-outcome.result.1) (g.B.Tasks.at c.all_ends.result.1) c.all_lines-outcome.ensures.stays c.all_ends.ensures.stays

pub returns-in-Memory-clause-goes : goal.returns-in-Memory-clause-goes
returns-in-Memory-clause-goes g c plan marks ready d =
    goes_is _ _ (g.B.Tasks.at c.all_lines-outcome.result.1) c.all_lines-outcome.result.0 Memory c.in-Memory.is (c.all_lines-outcome.ensures.goes plan marks ready d)

pub returns-in-Odd-clause-goes : goal.returns-in-Odd-clause-goes
returns-in-Odd-clause-goes g c plan marks ready d =
    goes_is _ _ (g.B.Tasks.at c.all_lines-outcome.result.1) c.all_lines-outcome.result.0 Odd c.in-Odd.is (c.all_lines-outcome.ensures.goes plan marks ready d)

pub all_ends-requires-clause-few : goal.all_ends-requires-clause-few
all_ends-requires-clause-few g c = subst (λ n. n ≤ QUERY_MOST) (sym c.all_lines-outcome.ensures.learns.more.len) c.requires.few

pub all_ends-requires-clause-seats : goal.all_ends-requires-clause-seats
all_ends-requires-clause-seats g c = czars_on g.P.Work.asks (g.B.Tasks.turn c.args.scan.now.boards.now) (g.E.Engine.root c.args.scan.now.engine.now) (g.B.Tasks.at c.args.seat) (g.B.Tasks.at c.all_lines-outcome.result.1) c.requires.seats c.all_lines-outcome.ensures.stays

pub returns-in-Went-clause-known : goal.returns-in-Went-clause-known
returns-in-Went-clause-known g c = c.all_ends.ensures.known

pub returns-in-Memory-clause-learns : goal.returns-in-Memory-clause-learns
returns-in-Memory-clause-learns g c = c.all_lines-outcome.ensures.learns

pub returns-in-Memory-clause-stays : goal.returns-in-Memory-clause-stays
returns-in-Memory-clause-stays g c = c.all_lines-outcome.ensures.stays

pub returns-in-Odd-clause-learns : goal.returns-in-Odd-clause-learns
returns-in-Odd-clause-learns g c = c.all_lines-outcome.ensures.learns

pub returns-in-Odd-clause-stays : goal.returns-in-Odd-clause-stays
returns-in-Odd-clause-stays g c = c.all_lines-outcome.ensures.stays
