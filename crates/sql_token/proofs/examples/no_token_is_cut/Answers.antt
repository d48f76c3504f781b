use Rattle.std.proofs.Common.{refl, pos, arith}
use Rattle.sql_token.specs.Keywords.{keyword_of}
use Rattle.sql_token.specs.declared.sign.Sign.TheVariants as sign
use Rattle.sql_token.specs.declared.token.TokenKind.TheVariants as kind
use Rattle.sql_token.proofs.examples.no_token_is_cut.Goals as goal

pub returns-clause-word : goal.returns-clause-word
unfolding keyword_of
returns-clause-word c = λ stand. stand.0.longest 2 (omega arith) (omega arith) kind.Name (refl, refl)

pub returns-clause-sign : goal.returns-clause-sign
returns-clause-sign c = λ stand. stand.0.longest 2 (omega arith) (omega arith) (kind.Sign sign.AtMost) refl

pub returns-clause-int : goal.returns-clause-int
returns-clause-int c = λ stand. stand.0.longest 2 (omega arith) (omega arith) (kind.Int (pos 12)) (refl, refl)
