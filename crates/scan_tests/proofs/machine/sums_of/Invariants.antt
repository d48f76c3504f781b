use Rattle.std.proofs.Common.{◌≡◌, ◌+◌, ◌*◌, length, sum_by}
use Rattle.scan_core.specs.Delivering.{PiecesFit}
use Rattle.scan_tests.specs.declared.machine.Sum.{Sum}
use Rattle.scan_tests.proofs.machine.sums_of.Given as goal

abbrev pub invariant-loop-turn : goal.invariant-loop-turn
invariant-loop-turn l = (length l.sums.items ≡ l.turn) × PiecesFit (λ q chunks (sum : Sum). sum.total ≡ sum_by (λ chunk. 1000 * q + chunk) chunks) l.task.chunk l.queries l.sums.items
