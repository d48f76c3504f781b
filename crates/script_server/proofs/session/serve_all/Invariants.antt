use Rattle.request_loop.specs.Sessions.{streams}
use Rattle.request_loop.specs.Steps.{IsSoFar}
use Rattle.script_server.specs.Answers.{IsAnswer, basis_of}
use Rattle.script_server.proofs.session.serve_all.Given as goal

-- the requests so far were answered
abbrev pub invariant-loop : goal.invariant-loop
invariant-loop g l = record {
  can : (goal.iterator-loop g).can_next l.iterator';
  finite : (goal.iterator-loop g).is_finite l.iterator';
  far : IsSoFar (IsAnswer (basis_of l.world l.workers)) (streams (g.S.Source.state l.fn.source) (g.S.Source.state l.source) (g.K.Sink.state l.fn.sink) (g.K.Sink.state l.sink));
}
