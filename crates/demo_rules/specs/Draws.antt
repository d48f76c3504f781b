-- The draws of the demo: a linear congruential generator, minstd_rand of the C++ standard.
use Rattle.std.specs.Prelude.{ℕ, ◌+◌, ◌-◌, ◌*◌, ◌^◌, ◌%◌}
use Rattle.demo_rules.specs.declared.limits.TheConstants.{DRAWS_EACH, MODULUS, MULTIPLIER}

-- the k-th draw from a seed, counted from 1: each is 48,271 times the one before, modulo 2^31 - 1
abbrev pub draw : ℕ → ℕ → ℕ
draw seed k = seed * MULTIPLIER ^ k % MODULUS

-- draw j of object i, both counted from 1
abbrev pub draw_of : ℕ → ℕ → ℕ → ℕ
draw_of seed i j = draw seed (DRAWS_EACH * (i - 1) + j)
