use Rattle.sky_io.proofs.Writes.{wrote_one, wrote_two}
use Rattle.sql_print.specs.Clauses.{from_second}
use Rattle.sql_print.proofs.query.put_from_second.Goals as goal

pub returns-in-Failed : goal.returns-in-Failed
unfolding from_second
returns-in-Failed g c = wrote_one _ _ _ _ c.in-Failed.ensures

pub returns-in-Done : goal.returns-in-Done
unfolding from_second
returns-in-Done g c = wrote_two _ _ _ _ _ _ c.in-Done.ensures c.put_from_where.ensures
