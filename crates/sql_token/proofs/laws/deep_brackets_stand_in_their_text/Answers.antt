use Rattle.sql_token.proofs.Deep.{deep_bracket}
use Rattle.sql_token.proofs.laws.deep_brackets_stand_in_their_text.Goals as goal

pub returns : goal.returns
returns c = deep_bracket
