use Rattle.column_vectors.proofs.Reading.{ids_column, xs_column, ys_column, zs_column}
use Rattle.chunk_group_scan.proofs.Marking.{marked_whole}
use Rattle.chunk_group_scan.proofs.runs.mark.Goals as goal

pub returns-in-0-clause-marked : goal.returns-in-0-clause-marked
returns-in-0-clause-marked c =
    marked_whole c.args.block.now.objects c.args.col 0 c.ids.result.now c.args.places.now c.args.starts.now c.mark_wide.new.starts c.in-0.is
    (ids_column c.args.block.now.objects c.ids.result.now c.ids.ensures) c.requires.there c.mark_wide.ensures.marked

pub returns-in-1-clause-marked : goal.returns-in-1-clause-marked
returns-in-1-clause-marked c =
    marked_whole c.args.block.now.objects c.args.col 1 c.xs.result.now c.args.places.now c.args.starts.now c.mark_narrow.new.starts c.in-1.is
    (xs_column c.args.block.now.objects c.xs.result.now c.xs.ensures.value) c.requires.there c.mark_narrow.ensures.marked

pub returns-in-2-clause-marked : goal.returns-in-2-clause-marked
returns-in-2-clause-marked c =
    marked_whole c.args.block.now.objects c.args.col 2 c.ys.result.now c.args.places.now c.args.starts.now c.mark_narrow-in-2.new.starts c.in-2.is
    (ys_column c.args.block.now.objects c.ys.result.now c.ys.ensures.value) c.requires.there c.mark_narrow-in-2.ensures.marked

pub returns-in-3-clause-marked : goal.returns-in-3-clause-marked
returns-in-3-clause-marked c =
    marked_whole c.args.block.now.objects c.args.col 3 c.zs.result.now c.args.places.now c.args.starts.now c.mark_narrow-in-3.new.starts c.in-3.is
    (zs_column c.args.block.now.objects c.zs.result.now c.zs.ensures.value) c.requires.there c.mark_narrow-in-3.ensures.marked
