use Rattle.std.proofs.Common.{refl}
use Rattle.value_rules.proofs.Trees.{trees}
use Rattle.value_rules.proofs.examples.six_comparisons.Goals as goal

pub returns-clause-equal : goal.returns-clause-equal
returns-clause-equal c = simp trees refl

pub returns-clause-differs : goal.returns-clause-differs
returns-clause-differs c = simp trees refl

pub returns-clause-less : goal.returns-clause-less
returns-clause-less c = simp trees refl

pub returns-clause-at_most : goal.returns-clause-at_most
returns-clause-at_most c = simp trees refl

pub returns-clause-more : goal.returns-clause-more
returns-clause-more c = simp trees refl

pub returns-clause-at_least : goal.returns-clause-at_least
returns-clause-at_least c = simp trees refl
