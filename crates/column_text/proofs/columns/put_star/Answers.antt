use Rattle.column_text.proofs.Parting.{as_text, bare_columns}
use Rattle.column_text.proofs.columns.put_star.Goals as goal

pub returns-in-None : goal.returns-in-None
returns-in-None g c = rw c.in-None.is (as_text _ _ _ _ _ (bare_columns c.args.schema.now) c.put_columns.ensures)
