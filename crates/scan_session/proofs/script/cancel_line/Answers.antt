use Rattle.std.proofs.Common.{is_some, ap, sym, ◌∙◌}
use Rattle.scan_session.specs.KnownEnds.{known_in, at_query}
use Rattle.scan_session.specs.Places.{only}
use Rattle.scan_session.proofs.Calling.{stays_here}
use Rattle.scan_session.proofs.Listing.{at_read, none_of, cancel_known, known_at}
use Rattle.scan_session.proofs.script.cancel_line.Goals as goal

pub cancel-requires : goal.cancel-requires
cancel-requires g c = c.requires.seats

pub returns-then-is_some-clause-goes : goal.returns-then-is_some-clause-goes
returns-then-is_some-clause-goes g c plan done marks started d p =
    let here = at_read c.args.ends.now c.args.q c.index-ends-place.result c.requires.from_1 c.requires.low c.index-ends-place.is in
    let has = g.B.Boards.has c.args.scan.now.boards.now p in
    cancel_known (only has plan) done (g.B.Tasks.at c.args.seat p).seen (only has (known_in c.args.ends.now)) c.args.q (c.requires.seats.czar p).lawful.run.run
    (known_at has plan c.args.ends.now c.args.q (ap is_some here ∙ (sym c.is_some.ensures ∙ c.if-is_some.true)) marks) started (d p)

pub returns-then-is_some-clause-stays : goal.returns-then-is_some-clause-stays
returns-then-is_some-clause-stays g c = λ p. stays_here g.P.Work.asks (g.B.Tasks.at c.args.seat p) (c.requires.seats.czar p)

pub returns-clause-goes : goal.returns-clause-goes
returns-clause-goes g c plan done marks started d =
    let here = at_read c.args.ends.now c.args.q c.index-ends-place.result c.requires.from_1 c.requires.low c.index-ends-place.is in
    c.cancel.ensures.goes plan done (known_in c.args.ends.now) started (marks.planned c.args.q c.requires.from_1 c.requires.low (none_of (at_query c.args.ends.now c.args.q) (ap is_some here ∙ (sym c.is_some.ensures ∙ c.if-is_some.false)))) d
