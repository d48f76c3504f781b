use Rattle.sky_io.proofs.Writes.{wrote_one, wrote_two}
use Rattle.explain_text.proofs.ChunkItems.{keys_first}
use Rattle.column_text.proofs.Parting.{as_text}
use Rattle.std.specs.List.{flat_map}
use Rattle.bind_rules.specs.Mentions.{items_of}
use Rattle.explain_text.specs.Explaining.{parts_of}
use Rattle.explain_text.proofs.group_parts.put_keys_and_parts.Goals as goal

pub returns-in-Failed : goal.returns-in-Failed
returns-in-Failed g c = as_text _ _ _ _ _ (keys_first c.args.first.now c.args.rest.now (flat_map parts_of (items_of c.args.items.now))) (wrote_one _ _ _ _ c.in-Failed.ensures)

pub returns-in-Done : goal.returns-in-Done
returns-in-Done g c = as_text _ _ _ _ _ (keys_first c.args.first.now c.args.rest.now (flat_map parts_of (items_of c.args.items.now))) (wrote_two _ _ _ _ _ _ c.in-Done.ensures c.put_parts.ensures)
