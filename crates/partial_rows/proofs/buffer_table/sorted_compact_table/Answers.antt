use Rattle.std.proofs.Common.{◌≡◌, length, map, ap, subst, sym, ◌∙◌, List}
use Rattle.std.specs.List.{All}
use Rattle.std.specs.Prelude.{IfOk}
use Rattle.answer_rules.specs.Finish.{column_value}
use Rattle.answer_rules.specs.InOrder.{first, in_order}
use Rattle.answer_rules.specs.Ranks.{row_order}
use Rattle.answer_rules.specs.Rows.{limit_of}
use Rattle.answer_rules.specs.declared.row.OutRow.{OutRow}
use Rattle.partial_rows.specs.CompactRows.{full}
use Rattle.partial_rows.specs.Rows.{IsIn, row_of}
use Rattle.partial_rows.specs.declared.compact_row.CompactRow.{CompactRow}
use Rattle.partial_rows.proofs.CompactRows.{first_compact, first_hold, sorted_compact}
use Rattle.partial_rows.proofs.buffer_table.sorted_compact_table.Goals as goal

pub compact_table-requires : goal.compact_table-requires
compact_table-requires c =
    subst (λ (ps : List CompactRow). All (λ p. IsIn (length c.args.cells.now) (full c.args.width p)) ps) (sym (c.as_slice.ensures.value ∙ c.cut.ensures))
    (first_hold (λ (p : CompactRow). IsIn (length c.args.cells.now) (full c.args.width p)) (limit_of c.args.merge.now.limit) c.args.compact.items c.sort_rows.new.rows.items c.requires.there c.sort_rows.ensures.permutation)

-- the rows of the table are the first of those in order
rows_are : (c : goal.After-drop-compact) → map (row_of c.args.cells.now) (map (full c.args.width) c.as_slice.result.now) ≡ first (limit_of c.args.merge.now.limit) (in_order row_order (map (row_of c.args.cells.now) (map (full c.args.width) c.args.compact.items)))
rows_are c =
    ap (λ (ps : List CompactRow). map (row_of c.args.cells.now) (map (full c.args.width) ps)) (c.as_slice.ensures.value ∙ c.cut.ensures)
    ∙ first_compact c.args.cells.now c.args.width (limit_of c.args.merge.now.limit) c.sort_rows.new.rows.items
    ∙ ap (first (limit_of c.args.merge.now.limit)) (sorted_compact c.args.cells.now c.args.width c.args.compact.items c.sort_rows.new.rows.items c.requires.apart c.sort_rows.ensures.permutation c.sort_rows.ensures.sorted)

pub returns : goal.returns
returns c =
    subst (λ (rs : List OutRow). IfOk c.compact_table.result (λ table. table ≡ map (λ r. map (column_value r.cells) c.args.merge.now.items) rs)) (rows_are c)
    (subst (λ items. IfOk c.compact_table.result (λ table. table ≡ map (λ r. map (column_value r.cells) items) (map (row_of c.args.cells.now) (map (full c.args.width) c.as_slice.result.now)))) c.as_slice-2.ensures c.compact_table.ensures)
