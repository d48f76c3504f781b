use Rattle.std.proofs.Common.{◌++◌, ◌∷◌, [], length, length-append, arith, ap, ◌∙◌}
use Rattle.partial_rows.specs.declared.ranked.Ranked.{Ranked}
use Rattle.partial_rows.specs.Rows.{placed}
use Rattle.partial_rows.proofs.Vacuuming.{values_long, values_of}
use Rattle.partial_rows.proofs.vacuum.put_row.Goals as goal

pub placed-requires-clause-order : goal.placed-requires-clause-order
placed-requires-clause-order c = c.requires.order

pub placed-requires-clause-fits : goal.placed-requires-clause-fits
placed-requires-clause-fits c =
    omega (arith, c.len-from.ensures ∙ c.args.live.now.ok.0, ap length (c.in_ok-put_copies.ensures ∙ ap (λ vs. c.args.live.now.items ++ vs) c.cells_of.ensures), length-append c.args.live.now.items (values_of c.args.cells.now c.args.row.now), values_long c.args.cells.now c.args.row.now c.requires, c.put_copies.new.cells.ok.0, c.put_copies.new.cells.ok.1, c.put_copies.new.cells.small)

pub returns-clause-cells : goal.returns-clause-cells
returns-clause-cells c = c.in_ok-put_copies.ensures ∙ ap (λ vs. c.args.live.now.items ++ vs) c.cells_of.ensures

pub returns-clause-rows : goal.returns-clause-rows
returns-clause-rows c =
    c.in_ok-put_last.ensures.kept
    ∙ ap (λ (r : Ranked). c.args.rows.now.items ++ r ∷ []) (c.placed.ensures ∙ ap (λ n. placed n c.args.row.now) (c.len-from.ensures ∙ c.args.live.now.ok.0))
