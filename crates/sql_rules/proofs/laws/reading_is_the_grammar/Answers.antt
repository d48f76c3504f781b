use Rattle.sql_rules.proofs.Law.{written_is_read}
use Rattle.sql_rules.proofs.laws.reading_is_the_grammar.Goals as goal

pub returns-clause-only : goal.returns-clause-only
returns-clause-only c = written_is_read
