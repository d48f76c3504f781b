use Rattle.std.proofs.Common.{◌≡◌}
use Rattle.request_loop.specs.Readings.{HasRead}
use Rattle.request_loop.proofs.request.read_lines.Given as goal

-- so far no line ended the request, and the source did not fail
abbrev pub invariant-loop : goal.invariant-loop
invariant-loop g l = record {
  can : (goal.iterator-loop g).can_next l.iterator';
  finite : (goal.iterator-loop g).is_finite l.iterator';
  has : HasRead (g.S.Source.state l.fn.source) (g.S.Source.state l.source) l.draft;
  still : (g.S.Source.state l.source).faults ≡ (g.S.Source.state l.fn.source).faults;
}
