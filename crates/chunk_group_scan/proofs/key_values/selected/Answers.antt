use Rattle.std.proofs.Common.{◌∙◌}
use Rattle.chunk_group_scan.proofs.KeyColumn.{all_numbers}
use Rattle.chunk_group_scan.proofs.key_values.selected.Goals as goal

pub returns-then-are_all_rows : goal.returns-then-are_all_rows
returns-then-are_all_rows c =
    c.in_ok-whole.ensures.items ∙ all_numbers c.args.numbers.now c.args.places.now c.if-are_all_rows.ensures
