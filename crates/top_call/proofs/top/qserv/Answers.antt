use Rattle.top_call.specs.Words.{form_of, bytes_of}
use Rattle.top_call.specs.Explained.{shown}
use Rattle.top_call.proofs.Completeness.{completes}
use Rattle.top_call.proofs.top.qserv.Goals as goal

pub returns-in-Some-clause-complete : goal.returns-in-Some-clause-complete
returns-in-Some-clause-complete g c =
    completes (form_of (bytes_of c.args.words.now))
    (shown (g.S.Shelf.state c.args.shelf.now) (g.S.Shelf.state c.run_form.new.shelf)
    (g.K.Sink.state c.args.sink.now) (g.K.Sink.state c.run_form.new.sink))
    c.run_form.result (rw c.in-Some.ensures.form c.run_form.ensures)
