use Rattle.std.proofs.Common.{refl}
use Rattle.value_rules.proofs.Trees.{trees}
use Rattle.value_rules.proofs.examples.widths_of_products.Goals as goal

pub returns-clause-wide : goal.returns-clause-wide
returns-clause-wide c = simp trees refl

pub returns-clause-narrow : goal.returns-clause-narrow
returns-clause-narrow c = simp trees refl

pub returns-clause-itself : goal.returns-clause-itself
returns-clause-itself c = simp trees refl

pub returns-clause-refused : goal.returns-clause-refused
returns-clause-refused c = simp trees refl

pub returns-clause-most : goal.returns-clause-most
returns-clause-most c = simp trees refl

pub returns-clause-absent : goal.returns-clause-absent
returns-clause-absent c = simp trees refl
