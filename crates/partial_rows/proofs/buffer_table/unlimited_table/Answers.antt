use Rattle.std.proofs.Common.{◌++◌, List, length, map, subst, sym}
use Rattle.answer_rules.specs.Keeps.{AreApart}
use Rattle.answer_rules.specs.Ranks.{row_order}
use Rattle.partial_rows.specs.declared.compact_row.CompactRow.{CompactRow}
use Rattle.partial_rows.specs.CompactRows.{full}
use Rattle.partial_rows.specs.Rows.{IsIn, row_of}
use Rattle.partial_rows.proofs.CompactRows.{compact_hold, front_apart}
use Rattle.partial_rows.proofs.buffer_table.unlimited_table.Goals as goal

pub sorted_compact_table-requires-clause-there : goal.sorted_compact_table-requires-clause-there
sorted_compact_table-requires-clause-there c = compact_hold (IsIn (length c.args.cells.now)) c.args.unlimited.width c.args.unlimited.compact.items c.args.unlimited.rows.items c.requires.there

pub sorted_compact_table-requires-clause-apart : goal.sorted_compact_table-requires-clause-apart
sorted_compact_table-requires-clause-apart c = front_apart c.args.cells.now (map (full c.args.unlimited.width) c.args.unlimited.compact.items) c.args.unlimited.rows.items c.requires.apart

pub mixed_table-requires-clause-apart : goal.mixed_table-requires-clause-apart
mixed_table-requires-clause-apart c =
    subst (λ (ps : List CompactRow). AreApart row_order (map (row_of c.args.cells.now) (map (full c.args.unlimited.width) ps ++ c.args.unlimited.rows.items))) (sym c.as_slice.ensures.value) c.requires.apart
