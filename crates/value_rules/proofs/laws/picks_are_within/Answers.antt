use Rattle.value_rules.proofs.Ranges.{row_is_within, pair_is_within}
use Rattle.value_rules.proofs.laws.picks_are_within.Goals as goal

pub returns-clause-row : goal.returns-clause-row
returns-clause-row c = row_is_within

pub returns-clause-pair : goal.returns-clause-pair
returns-clause-pair c = pair_is_within
