use Rattle.sql_token.proofs.Faulty.{bad_byte, large_int}
use Rattle.sql_token.proofs.laws.faults_stand_in_their_text.Goals as goal

pub returns-clause-bad_byte : goal.returns-clause-bad_byte
returns-clause-bad_byte c = bad_byte

pub returns-clause-literal : goal.returns-clause-literal
returns-clause-literal c = large_int
