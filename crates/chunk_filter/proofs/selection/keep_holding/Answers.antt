use Rattle.std.proofs.Common.{◌∙◌, ap, map}
use Rattle.sky_row.specs.Columns.{objects_at}
use Rattle.value_rules.specs.Truth.{truth_of}
use Rattle.value_rules.specs.Values.{row}
use Rattle.chunk_filter.specs.Selection.{holds_at}
use Rattle.chunk_filter.proofs.Places.{held}
use Rattle.chunk_filter.proofs.selection.keep_holding.Goals as goal

pub returns : goal.returns
returns c =
    c.keep_true.ensures (holds_at c.args.c.now c.args.block.now.objects)
    (held c.args.block.now.objects c.args.c.now c.args.places.now.items c.in_ok-found.found c.holds.result.now c.holds.ensures
    (c.in_ok-found.ensures
    ∙ ap (λ l. map (λ o. truth_of c.args.c.now (row o)) (objects_at c.args.block.now.objects l)) c.as_slice.ensures.value))
