use Rattle.sql_token.proofs.Deep.{are_within}
use Rattle.sql_token.proofs.laws.tokens_are_read_within_the_limits.Goals as goal

pub returns : goal.returns
returns c = are_within
