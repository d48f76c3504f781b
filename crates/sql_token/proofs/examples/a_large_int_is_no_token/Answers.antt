use Rattle.std.proofs.Common.{arith}
use Rattle.sql_token.proofs.examples.a_large_int_is_no_token.Goals as goal

pub returns : goal.returns
returns c = λ stand. omega (arith, stand.0.written.1)
