use Rattle.std.proofs.Common.{◌≡◌, ◌-◌, Some, None, rules, ◌∙◌, sym, subst, slice_set, Option}
use Rattle.scan_session.specs.KnownEnds.{at_query}
use Rattle.scan_session.specs.Places.{AllFit}
use Rattle.scan_session.specs.declared.end.Planned.{Planned}
use Rattle.scan_session.proofs.Listing.{at_read, ready_none, ready_some, ready_set, fit_on, fit_set}
use Rattle.scan_session.proofs.Calling.{stays_here}
use Rattle.scan_session.proofs.Placing.{refused_goes}
use Rattle.scan_session.proofs.script.query_line.Goals as goal

pub start-requires-clause-suits : goal.start-requires-clause-suits
start-requires-clause-suits g c =
    let here : at_query c.args.plans.now c.args.q ≡ Some c.in-Some.planned = at_read c.args.plans.now c.args.q c.index-plans-place.result c.requires.from_1 c.requires.low c.index-plans-place.is ∙ search rules in
    c.requires.fit.suit c.args.q c.in-Some.planned here

pub start-requires-clause-may : goal.start-requires-clause-may
start-requires-clause-may g c p =
    let here : at_query c.args.plans.now c.args.q ≡ Some c.in-Some.planned = at_read c.args.plans.now c.args.q c.index-plans-place.result c.requires.from_1 c.requires.low c.index-plans-place.is ∙ search rules in
    (c.requires.fit.fit p).each c.args.q c.in-Some.planned here

pub start-requires-clause-seats : goal.start-requires-clause-seats
start-requires-clause-seats g c = c.requires.seats

pub returns-in-None-clause-goes : goal.returns-in-None-clause-goes
returns-in-None-clause-goes g c plan done ends span ready free d =
    let here : at_query c.args.plans.now c.args.q ≡ None = at_read c.args.plans.now c.args.q c.index-plans-place.result c.requires.from_1 c.requires.low c.index-plans-place.is ∙ search rules in
    refused_goes (g.B.Boards.has c.args.scan.now.boards.now) plan done (g.B.Tasks.at c.args.seat) ends c.args.q span (ready_none plan done c.args.plans.now c.args.q ready free here) d

pub returns-in-Some-clause-goes : goal.returns-in-Some-clause-goes
returns-in-Some-clause-goes g c plan done ends span ready free d =
    let here : at_query c.args.plans.now c.args.q ≡ Some c.in-Some.planned = at_read c.args.plans.now c.args.q c.index-plans-place.result c.requires.from_1 c.requires.low c.index-plans-place.is ∙ search rules in
    c.start.ensures.goes plan done ends span free (ready_some plan done c.args.plans.now c.args.q c.in-Some.planned ready free here) d

pub returns-in-Some-clause-ready : goal.returns-in-Some-clause-ready
returns-in-Some-clause-ready g c plan done span ready = ready_set plan done c.args.plans.now c.args.q span c.take.new.self c.requires.from_1 ready

pub returns-in-Some-clause-fit : goal.returns-in-Some-clause-fit
returns-in-Some-clause-fit g c =
    let gone : c.take.new.self ≡ None = search rules in
    let suits = g.B.Boards.suits c.args.scan.now.boards.now in
    let new = g.B.Tasks.at c.start.result.1 in
    subst (λ (o : Option (Planned g.row.P.Denot)). AllFit g.P.Work.stands g.P.Work.asks suits new (slice_set c.args.plans.now (c.args.q - 1) o)) (sym gone)
    (fit_set g.P.Work.stands g.P.Work.asks suits new c.args.plans.now c.args.q c.requires.from_1 c.requires.low
    (fit_on g.P.Work.stands g.P.Work.asks suits (g.B.Tasks.at c.args.seat) new c.args.plans.now c.start.ensures.stays c.requires.fit))

pub returns-in-None-clause-stays : goal.returns-in-None-clause-stays
returns-in-None-clause-stays g c = λ p. stays_here g.P.Work.asks (g.B.Tasks.at c.args.seat p) (c.requires.seats.czar p)

pub returns-in-Some-clause-stays : goal.returns-in-Some-clause-stays
returns-in-Some-clause-stays g c = c.start.ensures.stays
