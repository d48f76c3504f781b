use Rattle.std.proofs.Common.{◌≡◌, length, map, ap, subst, sym, ◌∙◌, List}
use Rattle.std.specs.List.{All}
use Rattle.std.specs.Prelude.{IfOk}
use Rattle.answer_rules.specs.Finish.{column_value}
use Rattle.answer_rules.specs.InOrder.{first, in_order}
use Rattle.answer_rules.specs.Ranks.{row_order}
use Rattle.answer_rules.specs.Rows.{limit_of}
use Rattle.answer_rules.specs.declared.row.OutRow.{OutRow}
use Rattle.partial_rows.specs.Rows.{IsIn, row_of}
use Rattle.partial_rows.specs.declared.ranked.Ranked.{Ranked}
use Rattle.partial_rows.proofs.Finishing.{first_rows, first_there, sorted_rows}
use Rattle.partial_rows.proofs.buffer_table.sorted_table.Goals as goal

pub row_table-requires : goal.row_table-requires
row_table-requires c =
    subst (λ (rows : List Ranked). All (IsIn (length c.args.cells.now)) rows) (sym (c.as_slice.ensures.value ∙ c.cut.ensures))
    (first_there (length c.args.cells.now) (limit_of c.args.merge.now.limit) c.args.rows.items c.sort_unstable.new.self.items c.requires.there c.sort_unstable.ensures.permutation)

-- the rows of the table are the first of those in order
rows_are : (c : goal.After-drop-rows) → map (row_of c.args.cells.now) c.as_slice.result.now ≡ first (limit_of c.args.merge.now.limit) (in_order row_order (map (row_of c.args.cells.now) c.args.rows.items))
rows_are c =
    ap (map (row_of c.args.cells.now)) (c.as_slice.ensures.value ∙ c.cut.ensures)
    ∙ first_rows c.args.cells.now (limit_of c.args.merge.now.limit) c.sort_unstable.new.self.items
    ∙ ap (first (limit_of c.args.merge.now.limit)) (sorted_rows c.args.cells.now c.args.rows.items c.sort_unstable.new.self.items c.requires.apart c.sort_unstable.ensures.permutation c.sort_unstable.ensures.sorted)

pub returns : goal.returns
returns c =
    subst (λ (rs : List OutRow). IfOk c.row_table.result (λ table. table ≡ map (λ r. map (column_value r.cells) c.args.merge.now.items) rs)) (rows_are c)
    (subst (λ items. IfOk c.row_table.result (λ table. table ≡ map (λ r. map (column_value r.cells) items) (map (row_of c.args.cells.now) c.as_slice.result.now))) c.as_slice-2.ensures c.row_table.ensures)
