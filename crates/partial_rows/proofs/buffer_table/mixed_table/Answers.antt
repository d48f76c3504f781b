use Rattle.std.proofs.Common.{List, length, map, subst, sym}
use Rattle.answer_rules.specs.Keeps.{AreApart}
use Rattle.answer_rules.specs.Ranks.{row_order}
use Rattle.partial_rows.specs.declared.ranked.Ranked.{Ranked}
use Rattle.partial_rows.specs.Rows.{IsIn, row_of}
use Rattle.partial_rows.proofs.CompactRows.{compact_hold}
use Rattle.partial_rows.proofs.buffer_table.mixed_table.Goals as goal

pub all_rows-requires : goal.all_rows-requires
all_rows-requires c = compact_hold (IsIn (length c.args.cells.now)) c.args.width c.args.compact.now c.args.rows.items c.requires.there

pub sorted_table-requires-clause-apart : goal.sorted_table-requires-clause-apart
sorted_table-requires-clause-apart c =
    subst (λ (rs : List Ranked). AreApart row_order (map (row_of c.args.cells.now) rs)) (sym c.in_ok-all.ensures) c.requires.apart
