use Rattle.std.proofs.Common.{ap, map, ◌∙◌}
use Rattle.partial_rows.specs.Multisets.{pushed_in, ranks_in, rows_in}
use Rattle.partial_rows.specs.Rows.{row_of}
use Rattle.partial_rows.proofs.Vacuuming.{keeps_itself, keeps_same}
use Rattle.partial_rows.proofs.vacuum.vacuum_if_doubled.Goals as goal

pub returns-then-len-vacuumed-clause-kept : goal.returns-then-len-vacuumed-clause-kept
returns-then-len-vacuumed-clause-kept c = keeps_itself (pushed_in c.args.buffer.now) (rows_in c.args.cells.now.items c.args.buffer.now)

pub returns-in-Err-clause-kept : goal.returns-in-Err-clause-kept
returns-in-Err-clause-kept c =
    keeps_same (pushed_in c.args.buffer.now) (rows_in c.args.cells.now.items c.args.buffer.now) (rows_in c.vacuum.new.cells.items c.vacuum.new.buffer)
    (ap (map (row_of c.vacuum.new.cells.items)) c.in-Err.ensures.rows ∙ ap (λ cs. map (row_of cs) (ranks_in c.args.buffer.now)) c.in-Err.ensures.cells)
