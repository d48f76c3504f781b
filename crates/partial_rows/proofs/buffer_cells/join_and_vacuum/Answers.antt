use Rattle.std.proofs.Common.{◌++◌}
use Rattle.partial_rows.specs.Multisets.{pushed_in, rows_in}
use Rattle.partial_rows.proofs.Vacuuming.{keeps_then}
use Rattle.partial_rows.proofs.buffer_cells.join_and_vacuum.Goals as goal

pub returns-clause-joined : goal.returns-clause-joined
returns-clause-joined c =
    keeps_then (pushed_in c.args.buffer.now) (pushed_in c.join.new.buffer) (rows_in c.args.cells.now.items c.args.buffer.now ++ rows_in c.args.more.items c.args.theirs) (rows_in c.join.new.cells.items c.join.new.buffer) (rows_in c.vacuum_if_doubled.new.cells.items c.vacuum_if_doubled.new.buffer)
    c.join.ensures.pushed c.in_ok-join.ensures.joined c.vacuum_if_doubled.ensures.kept
