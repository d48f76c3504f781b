use Rattle.sky_generate.specs.SoFar.{IsMadeSoFar}
use Rattle.sky_generate.proofs.rows.range_of.Given as goal

abbrev pub invariant-loop-made : goal.invariant-loop-made
invariant-loop-made l = IsMadeSoFar l.from l.made l.seed l.rows l.before
