use Rattle.std.proofs.Common.{◌≡◌}
use Rattle.scan_tests.proofs.machine.fill.Given as goal

abbrev pub invariant-loop-q : goal.invariant-loop-q
invariant-loop-q g l = l.board.ring ≡ 8
