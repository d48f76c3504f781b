use Rattle.top_call.proofs.top.run_form.Goals as goal

pub returns-in-Demo : goal.returns-in-Demo
returns-in-Demo g c = rw c.in-Demo.is (c.run_demo.ensures (g.S.Shelf.state c.args.shelf.now))
