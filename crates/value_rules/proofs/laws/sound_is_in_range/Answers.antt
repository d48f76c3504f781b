use Rattle.value_rules.proofs.Ranges.{sound_value_is_in_range, sound_is_in_range}
use Rattle.value_rules.proofs.laws.sound_is_in_range.Goals as goal

pub returns-clause-value : goal.returns-clause-value
returns-clause-value c = sound_value_is_in_range

pub returns-clause-query : goal.returns-clause-query
returns-clause-query c = sound_is_in_range
