use Rattle.std.proofs.Common.{refl}
use Rattle.sql_token.specs.Keywords.{keyword_of}
use Rattle.sql_token.specs.Tokens.{tokens_from, too_deep}
use Rattle.sql_token.proofs.examples.bad_byte_before_a_large_int.Goals as goal

pub returns : goal.returns
unfolding tokens_from too_deep keyword_of
returns c = refl
