use Rattle.sky_io.proofs.Writes.{wrote_one, wrote_two}
use Rattle.explain_text.proofs.ChunkItems.{row_parts}
use Rattle.column_text.proofs.Parting.{as_text}
use Rattle.explain_text.proofs.chunk_items.put_row_items.Goals as goal

pub returns-in-Failed : goal.returns-in-Failed
returns-in-Failed g c = as_text _ _ _ _ _ (row_parts c.args.schema.now c.args.head.now) (wrote_one _ _ _ _ c.in-Failed.ensures)

pub returns-in-Done : goal.returns-in-Done
returns-in-Done g c = as_text _ _ _ _ _ (row_parts c.args.schema.now c.args.head.now) (wrote_two _ _ _ _ _ _ c.in-Done.ensures c.put_ids_and_key.ensures)
