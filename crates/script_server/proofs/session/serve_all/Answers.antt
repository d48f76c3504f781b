use Rattle.request_loop.proofs.Serving.{session_ends, so_far_more, so_far_none}
use Rattle.script_server.specs.Answers.{IsAnswer, basis_of}
use Rattle.script_server.proofs.session.serve_all.Goals as goal

pub loop-init : goal.loop-init
loop-init g c = record {
  can = tt;
  finite = tt;
  far = so_far_none (IsAnswer (basis_of c.args.world.now c.args.workers)) _ _ c.requires.sent;
}

pub loop-preserved : goal.loop-preserved
loop-preserved g c = record {
  can = tt;
  finite = tt;
  far = so_far_more (IsAnswer (basis_of c.args.world.now c.args.workers)) _ _ _ _ _ _ c.loop.invariant.far c.in-None-serve_next.ensures;
}

pub returns-in-Some-serve_next : goal.returns-in-Some-serve_next
returns-in-Some-serve_next g c =
    session_ends (IsAnswer (basis_of c.args.world.now c.args.workers)) _ _ _ _ _ _ c.in-Some-serve_next.session c.loop.invariant.far c.in-Some-serve_next.ensures
