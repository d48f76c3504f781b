use Rattle.source_filter.specs.Candidates.{IsNarrowed}
use Rattle.source_filter.proofs.filter.narrow_all.Given as goal

abbrev pub invariant-loop-i : goal.invariant-loop-i
invariant-loop-i l = IsNarrowed l.conds l.lists l.mask
