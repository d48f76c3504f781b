use Rattle.std.proofs.Common.{codes}
use Rattle.sky_io.proofs.Writes.{wrote_one, wrote_two}
use Rattle.column_text.proofs.column_places.put_column_name.Goals as goal

pub returns-in-Failed : goal.returns-in-Failed
returns-in-Failed g c = wrote_one _ _ (codes "c") _ c.in-Failed.ensures

pub returns-in-Done : goal.returns-in-Done
returns-in-Done g c = wrote_two _ _ _ (codes "c") _ _ c.in-Done.ensures c.put_natural.ensures
