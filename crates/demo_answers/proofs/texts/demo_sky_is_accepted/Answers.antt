use Rattle.std.proofs.Common.{refl, arith}
use Rattle.sky_rules.specs.SkyText.{sky_of}
use Rattle.demo_answers.proofs.texts.demo_sky_is_accepted.Goals as goal

pub returns-clause-plan : goal.returns-clause-plan
unfolding sky_of
returns-clause-plan c = refl

pub returns-clause-short : goal.returns-clause-short
returns-clause-short c = omega arith
