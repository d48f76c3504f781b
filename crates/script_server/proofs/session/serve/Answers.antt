use Rattle.request_loop.proofs.Serving.{after_flush, not_flushed}
use Rattle.script_server.specs.Answers.{IsAnswer, basis_of}
use Rattle.script_server.proofs.session.serve.Goals as goal

pub returns-in-Failed : goal.returns-in-Failed
returns-in-Failed g c = not_flushed (IsAnswer (basis_of c.args.world.now c.args.workers)) _ _ _ c.in-Failed.ensures

pub returns-in-Done : goal.returns-in-Done
returns-in-Done g c = after_flush (IsAnswer (basis_of c.args.world.now c.args.workers)) _ _ _ _ _ c.serve_all.result c.in-Done.ensures c.serve_all.ensures
