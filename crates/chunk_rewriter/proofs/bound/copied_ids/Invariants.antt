use Rattle.std.proofs.Common.{◌≡◌, ◌++◌, drop}
use Rattle.chunk_rewriter.proofs.bound.copied_ids.Given as goal

abbrev pub invariant-loop-ids : goal.invariant-loop-ids
invariant-loop-ids l = l.tests ≡ l.found ++ drop l.ids-index l.tests
