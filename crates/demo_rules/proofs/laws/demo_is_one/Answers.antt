use Rattle.demo_rules.proofs.Existence.{demo_is_there}
use Rattle.demo_rules.proofs.Uniqueness.{demo_is_the_only_one}
use Rattle.demo_rules.proofs.laws.demo_is_one.Goals as goal

pub returns-clause-there : goal.returns-clause-there
returns-clause-there c = demo_is_there

pub returns-clause-only : goal.returns-clause-only
returns-clause-only c = demo_is_the_only_one
