use Rattle.std.proofs.Common.{List, length, map, subst, sym}
use Rattle.std.specs.List.{All}
use Rattle.answer_rules.specs.Keeps.{AreApart}
use Rattle.answer_rules.specs.Ranks.{row_order}
use Rattle.partial_rows.specs.declared.row_buffer.RowBuffer.{RowBuffer}
use Rattle.partial_rows.specs.declared.ranked.Ranked.{Ranked}
use Rattle.partial_rows.specs.Multisets.{ranks_in, rows_in}
use Rattle.partial_rows.specs.Rows.{IsIn, row_of}
use Rattle.partial_rows.proofs.buffer_table.buffer_table.Goals as goal

pub unlimited_table-requires-clause-apart : goal.unlimited_table-requires-clause-apart
unlimited_table-requires-clause-apart c = subst (λ (k : RowBuffer). AreApart row_order (rows_in c.args.cells.now k)) c.in-All.is c.requires.apart

pub sorted_table-requires-clause-there : goal.sorted_table-requires-clause-there
sorted_table-requires-clause-there c =
    subst (λ (rs : List Ranked). All (IsIn (length c.args.cells.now)) rs) (sym c.ranks.ensures)
    (subst (λ (k : RowBuffer). All (IsIn (length c.args.cells.now)) (ranks_in k)) c.in-First.is c.requires.there)

pub sorted_table-requires-clause-apart : goal.sorted_table-requires-clause-apart
sorted_table-requires-clause-apart c =
    subst (λ (rs : List Ranked). AreApart row_order (map (row_of c.args.cells.now) rs)) (sym c.ranks.ensures)
    (subst (λ (k : RowBuffer). AreApart row_order (rows_in c.args.cells.now k)) c.in-First.is c.requires.apart)
