use Rattle.std.proofs.Common.{◌++◌, ◌∷◌, []}
use Rattle.partial_rows.specs.Multisets.{out_row, pushed_in, rows_in}
use Rattle.partial_rows.proofs.Vacuuming.{keeps_then}
use Rattle.partial_rows.proofs.buffer_cells.put_and_vacuum.Goals as goal

pub returns-clause-kept : goal.returns-clause-kept
returns-clause-kept c =
    keeps_then (pushed_in c.args.buffer.now) (pushed_in c.put_row.new.buffer) (rows_in c.args.cells.now.items c.args.buffer.now ++ out_row c.args.rank.now c.args.values.now ∷ []) (rows_in c.put_row.new.cells.items c.put_row.new.buffer) (rows_in c.vacuum_if_doubled.new.cells.items c.vacuum_if_doubled.new.buffer)
    c.put_row.ensures.pushed c.in_ok-put_row.ensures.kept c.vacuum_if_doubled.ensures.kept
