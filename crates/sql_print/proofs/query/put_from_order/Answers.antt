use Rattle.sky_io.proofs.Writes.{wrote_one, wrote_two}
use Rattle.sql_print.specs.Clauses.{from_order}
use Rattle.sql_print.proofs.query.put_from_order.Goals as goal

pub returns-in-Failed : goal.returns-in-Failed
unfolding from_order
returns-in-Failed g c = wrote_one _ _ _ _ c.in-Failed.ensures

pub returns-in-Done : goal.returns-in-Done
unfolding from_order
returns-in-Done g c = wrote_two _ _ _ _ _ _ c.in-Done.ensures c.put_limit.ensures
