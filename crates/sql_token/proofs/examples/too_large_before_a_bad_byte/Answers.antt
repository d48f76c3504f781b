use Rattle.std.proofs.Common.{refl}
use Rattle.sql_token.specs.Keywords.{keyword_of}
use Rattle.sql_token.specs.Tokens.{tokens_from, too_deep}
use Rattle.sql_token.proofs.examples.too_large_before_a_bad_byte.Goals as goal

pub returns : goal.returns
unfolding tokens_from too_deep keyword_of
returns c = refl
