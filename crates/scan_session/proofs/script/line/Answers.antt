use Rattle.std.proofs.Common.{[], ◌∷◌, ◌++◌, sym, subst}
use Rattle.session_script.specs.declared.step.Step.{Step}
use Rattle.scan_session.specs.KnownEnds.{known_in, Ready}
use Rattle.scan_session.specs.Places.{GoingAll}
use Rattle.scan_session.specs.Goes.{Goes, IsNext, StopsAt}
use Rattle.scan_session.proofs.Listing.{fit_on, goes_wait, learns_none, marks_on}
use Rattle.scan_session.proofs.script.line.Goals as goal

pub returns-in-Query-clause-goes : goal.returns-in-Query-clause-goes
returns-in-Query-clause-goes g c plan done next marks ready d =
    let new = g.B.Tasks.at c.query_line.result.1 in
    subst (λ (s : Step). Goes (GoingAll (g.B.Boards.has c.args.scan.now.boards.now) plan (done ++ s ∷ []) new (known_in c.args.ends.now)) (StopsAt (g.B.Boards.has c.args.scan.now.boards.now) (g.B.Boards.home c.args.scan.now.boards.now) plan done s new (known_in c.args.ends.now)) new c.query_line.result.0) (sym c.in-Query.is)
    (c.query_line.ensures.goes plan done (known_in c.args.ends.now) _ ready (subst (IsNext done) c.in-Query.is next) d)

pub returns-in-Query-clause-ready : goal.returns-in-Query-clause-ready
returns-in-Query-clause-ready g c plan done ready =
    subst (λ (s : Step). Ready plan (done ++ s ∷ []) c.query_line.new.plans) (sym c.in-Query.is) (c.query_line.ensures.ready plan done _ ready)

pub returns-in-Query-clause-learns : goal.returns-in-Query-clause-learns
returns-in-Query-clause-learns g c = learns_none g.P.Work.asks g.P.Work.stands (g.B.Boards.home c.args.scan.now.boards.now) (g.B.Tasks.at c.args.seat) (g.B.Tasks.at c.query_line.result.1) c.args.ends.now c.query_line.ensures.stays

pub returns-in-Wait-clause-goes : goal.returns-in-Wait-clause-goes
returns-in-Wait-clause-goes g c plan done next marks ready d =
    let started = subst (IsNext done) c.in-Wait.is next in
    let new = g.B.Tasks.at c.await_end.result.1 in
    subst (λ (s : Step). Goes (GoingAll (g.B.Boards.has c.args.scan.now.boards.now) plan (done ++ s ∷ []) new (known_in c.await_end.new.ends)) (StopsAt (g.B.Boards.has c.args.scan.now.boards.now) (g.B.Boards.home c.args.scan.now.boards.now) plan done s new (known_in c.await_end.new.ends)) new c.await_end.result.0) (sym c.in-Wait.is)
    (goes_wait _ (g.B.Boards.has c.args.scan.now.boards.now) plan done new c.await_end.new.ends c.in-Wait.number c.await_end.result.0 started c.await_end.ensures.known
    (marks_on plan c.args.ends.now c.await_end.new.ends c.await_end.ensures.learns.more marks) (c.await_end.ensures.goes plan done marks started (λ p. (d p).drives)))

pub returns-in-Cancel-clause-goes : goal.returns-in-Cancel-clause-goes
returns-in-Cancel-clause-goes g c plan done next marks ready d =
    subst (λ (s : Step). GoingAll (g.B.Boards.has c.args.scan.now.boards.now) plan (done ++ s ∷ []) (g.B.Tasks.at c.cancel_line.result) (known_in c.args.ends.now)) (sym c.in-Cancel.is)
    (c.cancel_line.ensures.goes plan done marks (subst (IsNext done) c.in-Cancel.is next) d)

pub returns-in-Cancel-clause-learns : goal.returns-in-Cancel-clause-learns
returns-in-Cancel-clause-learns g c = learns_none g.P.Work.asks g.P.Work.stands (g.B.Boards.home c.args.scan.now.boards.now) (g.B.Tasks.at c.args.seat) (g.B.Tasks.at c.cancel_line.result) c.args.ends.now c.cancel_line.ensures.stays

pub query_line-requires-clause-seats : goal.query_line-requires-clause-seats
query_line-requires-clause-seats g c = c.requires.seats

pub await_end-requires-clause-seats : goal.await_end-requires-clause-seats
await_end-requires-clause-seats g c = c.requires.seats

pub cancel_line-requires-clause-seats : goal.cancel_line-requires-clause-seats
cancel_line-requires-clause-seats g c = c.requires.seats

pub returns-in-Query-clause-fit : goal.returns-in-Query-clause-fit
returns-in-Query-clause-fit g c = c.query_line.ensures.fit

pub returns-in-Query-clause-len : goal.returns-in-Query-clause-len
returns-in-Query-clause-len g c = c.query_line.ensures.len

pub returns-in-Query-clause-stays : goal.returns-in-Query-clause-stays
returns-in-Query-clause-stays g c = c.query_line.ensures.stays

pub returns-in-Wait-clause-fit : goal.returns-in-Wait-clause-fit
returns-in-Wait-clause-fit g c = fit_on g.P.Work.stands g.P.Work.asks (g.B.Boards.suits c.args.scan.now.boards.now) (g.B.Tasks.at c.args.seat) (g.B.Tasks.at c.await_end.result.1) c.args.plans.now c.await_end.ensures.stays c.requires.fit

pub returns-in-Wait-clause-learns : goal.returns-in-Wait-clause-learns
returns-in-Wait-clause-learns g c = c.await_end.ensures.learns

pub returns-in-Wait-clause-stays : goal.returns-in-Wait-clause-stays
returns-in-Wait-clause-stays g c = c.await_end.ensures.stays

pub returns-in-Cancel-clause-fit : goal.returns-in-Cancel-clause-fit
returns-in-Cancel-clause-fit g c = fit_on g.P.Work.stands g.P.Work.asks (g.B.Boards.suits c.args.scan.now.boards.now) (g.B.Tasks.at c.args.seat) (g.B.Tasks.at c.cancel_line.result) c.args.plans.now c.cancel_line.ensures.stays c.requires.fit

pub returns-in-Cancel-clause-stays : goal.returns-in-Cancel-clause-stays
returns-in-Cancel-clause-stays g c = c.cancel_line.ensures.stays
