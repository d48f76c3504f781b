use Rattle.std.proofs.Common.{◌≡◌, ◌++◌, drop}
use Rattle.chunk_rewriter.proofs.cond.+again.Given as goal

abbrev pub invariant-copied_alls-loop-all : goal.invariant-copied_alls-loop-all
invariant-copied_alls-loop-all l = l.rest ≡ l.found ++ drop l.all-index l.rest

abbrev pub invariant-copied_conds-loop-cond : goal.invariant-copied_conds-loop-cond
invariant-copied_conds-loop-cond l = l.conds ≡ l.found ++ drop l.cond-index l.conds
