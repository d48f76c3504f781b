use Rattle.bind_rules.proofs.Counts.{what_is_read_has_counts}
use Rattle.bind_rules.proofs.Soundness.{bound_is_sound}
use Rattle.bind_rules.proofs.laws.bound_is_sound.Goals as goal

pub returns-clause-sound : goal.returns-clause-sound
returns-clause-sound c = bound_is_sound

pub returns-clause-read : goal.returns-clause-read
returns-clause-read c = what_is_read_has_counts
