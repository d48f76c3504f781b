use Rattle.sky_generate.proofs.draws.+power.Given as goal

abbrev pub decreases-power : goal.decreases-power
decreases-power l = l.exponent
