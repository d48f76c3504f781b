use Rattle.std.proofs.Common.{ap, map, ◌∙◌}
use Rattle.partial_rows.specs.PackedKeys.{row_in}
use Rattle.partial_rows.proofs.PackedKeys.{arranged}
use Rattle.partial_rows.proofs.row_keys.arrange.Goals as goal

pub returns : goal.returns
returns c =
    arranged row_in c.put_keys.new.keys.items c.sort_unstable.new.self.items c.args.rows.now c.put_rows.new.rows c.if-not-put_keys.ensures c.sort_unstable.ensures.permutation
    (c.put_rows.ensures ∙ ap (map row_in) c.as_slice.ensures.value)
