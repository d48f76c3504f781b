use Rattle.std.proofs.Common.{ℕ, ◌≡◌, map, ap, subst, ◌∙◌, List}
use Rattle.std.specs.Prelude.{IfOk}
use Rattle.answer_rules.specs.Finish.{column_value}
use Rattle.answer_rules.specs.InOrder.{first, in_order}
use Rattle.answer_rules.specs.Ranks.{row_order}
use Rattle.answer_rules.specs.Rows.{limit_of}
use Rattle.answer_rules.specs.declared.row.OutRow.{OutRow}
use Rattle.partial_rows.specs.Pairs.{pair_row}
use Rattle.partial_rows.proofs.Pairs.{first_pairs, sorted_pairs}
use Rattle.partial_rows.proofs.pair_table.sorted_wide_pair_table.Goals as goal

-- the rows of the table are the first of those in order
rows_are : (c : goal.After-drop-pairs-2) → map pair_row c.as_slice.result.now ≡ first (limit_of c.args.merge.now.limit) (in_order row_order (map pair_row c.args.pairs.items))
rows_are c =
    ap (λ (ps : List ℕ). map pair_row ps) (c.as_slice.ensures.value ∙ c.cut.ensures)
    ∙ first_pairs (limit_of c.args.merge.now.limit) c.sort.new.self.items
    ∙ ap (first (limit_of c.args.merge.now.limit)) (sorted_pairs c.args.pairs.items c.sort.new.self.items c.requires c.sort.ensures.permutation c.in_ok-sort.ensures.sorted)

pub returns : goal.returns
returns c =
    subst (λ (rs : List OutRow). IfOk c.pair_table.result (λ table. table ≡ map (λ r. map (column_value r.cells) c.args.merge.now.items) rs)) (rows_are c)
    (subst (λ items. IfOk c.pair_table.result (λ table. table ≡ map (λ r. map (column_value r.cells) items) (map pair_row c.as_slice.result.now))) c.as_slice-2.ensures c.pair_table.ensures)
