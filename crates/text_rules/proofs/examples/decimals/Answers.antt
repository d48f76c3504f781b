use Rattle.std.proofs.Common.{refl}
use Rattle.std.specs.Fmt.{digits}
use Rattle.text_rules.proofs.examples.decimals.Goals as goal

pub returns-clause-third : goal.returns-clause-third
unfolding digits
returns-clause-third c = refl

pub returns-clause-nothing : goal.returns-clause-nothing
unfolding digits
returns-clause-nothing c = refl

pub returns-clause-zeros : goal.returns-clause-zeros
unfolding digits
returns-clause-zeros c = refl

pub returns-clause-least : goal.returns-clause-least
unfolding digits
returns-clause-least c = refl
