use Rattle.std.proofs.Common.{◌++◌, ◌∷◌, [], ap, ◌∙◌}
use Rattle.partial_rows.specs.declared.compact_row.CompactRow.{CompactRow}
use Rattle.partial_rows.proofs.CompactRows.{compact_put}
use Rattle.partial_rows.proofs.unlimited_rows.UnlimitedRows.put_compact.Goals as goal

pub returns-clause-put : goal.returns-clause-put
returns-clause-put c =
    compact_put c.args.self.now c.args.row.now c.push_reserved.new.self.items c.requires.compact
    (c.push_reserved.ensures.items ∙ ap (λ (p : CompactRow). c.args.self.now.compact.items ++ p ∷ []) c.of.ensures)
