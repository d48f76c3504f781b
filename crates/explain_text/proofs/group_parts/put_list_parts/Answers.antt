use Rattle.sky_io.proofs.Writes.{wrote_one, wrote_two}
use Rattle.column_text.proofs.Parting.{as_text, parted_more}
use Rattle.std.specs.List.{flat_map}
use Rattle.explain_text.specs.Explaining.{parts_of}
use Rattle.explain_text.proofs.group_parts.put_list_parts.Goals as goal

pub returns-in-Failed : goal.returns-in-Failed
returns-in-Failed g c = as_text _ _ _ _ _ (parted_more c.args.begun (parts_of c.args.list.now.first) (flat_map parts_of c.args.list.now.rest)) (wrote_one _ _ _ _ c.in-Failed.ensures)

pub returns-in-Done : goal.returns-in-Done
returns-in-Done g c = as_text _ _ _ _ _ (parted_more c.args.begun (parts_of c.args.list.now.first) (flat_map parts_of c.args.list.now.rest)) (wrote_two _ _ _ _ _ _ c.in-Done.ensures (rw (c.goes_on.ensures, c.as_slice.ensures) at c.put_further_parts.ensures))
