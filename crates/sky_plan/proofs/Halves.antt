-- The partition of two stripes is within the limits.
use Rattle.std.proofs.Common.{◌≡◌, refl, Ok}
use Rattle.sky_rules.specs.Examples.{halves, two_stripes}
use Rattle.sky_rules.specs.Limits.{IsSky}
use Rattle.sky_rules.specs.SkyText.{sky_of}
use Rattle.sky_rules.proofs.Accepted.{accepted_is_within_limits}

-- a sky text says it
said : sky_of two_stripes ≡ Ok halves
unfolding sky_of
said = refl

-- so it is within the limits
pub halves_within_limits : IsSky halves
halves_within_limits = accepted_is_within_limits two_stripes halves said
