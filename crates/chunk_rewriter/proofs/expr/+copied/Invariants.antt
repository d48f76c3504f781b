use Rattle.std.proofs.Common.{◌≡◌, ◌++◌, drop}
use Rattle.chunk_rewriter.proofs.expr.+copied.Given as goal

abbrev pub invariant-copied_factors-loop-factor : goal.invariant-copied_factors-loop-factor
invariant-copied_factors-loop-factor l = l.rest ≡ l.found ++ drop l.factor-index l.rest

abbrev pub invariant-copied_signeds-loop-signed : goal.invariant-copied_signeds-loop-signed
invariant-copied_signeds-loop-signed l = l.rest ≡ l.found ++ drop l.signed-index l.rest
