use Rattle.std.proofs.Common.{◌∙◌, Some, ap, map}
use Rattle.value_rules.specs.Values.{cell_of, row}
use Rattle.column_vectors.proofs.PickedColumns.{picked_values}
use Rattle.chunk_group_scan.proofs.key_values.key_values.Goals as goal

pub returns : goal.returns
returns c =
    ap (map Some) c.in_ok-values.ensures
    ∙ picked_values (λ o. cell_of (row o) c.args.key.now) c.args.block.now.objects c.in-Some.numbers.now c.args.places.now c.in-Some.ensures c.requires.there
