use Rattle.std.proofs.Common.{ℕ, ◌≡◌, map, ap, subst, ◌∙◌, List}
use Rattle.std.specs.Prelude.{IfOk}
use Rattle.answer_rules.specs.Finish.{column_value}
use Rattle.answer_rules.specs.InOrder.{first, in_order}
use Rattle.answer_rules.specs.Ranks.{row_order}
use Rattle.answer_rules.specs.Rows.{limit_of}
use Rattle.answer_rules.specs.declared.row.OutRow.{OutRow}
use Rattle.partial_rows.specs.PackedKeys.{pair_in}
use Rattle.partial_rows.specs.Pairs.{pair_row}
use Rattle.partial_rows.proofs.ShortPairs.{first_keys, sorted_keys}
use Rattle.partial_rows.proofs.short_pair_table.sorted_short_pair_table.Goals as goal

-- the rows of the table are the first of those in order
rows_are : (c : goal.After-drop-keys) → map pair_row (map pair_in c.as_slice.result.now) ≡ first (limit_of c.args.merge.now.limit) (in_order row_order (map pair_row (map pair_in c.args.keys.items)))
rows_are c =
    ap (λ (ks : List ℕ). map pair_row (map pair_in ks)) (c.as_slice.ensures.value ∙ c.cut.ensures)
    ∙ first_keys (limit_of c.args.merge.now.limit) c.sort_unstable.new.self.items
    ∙ ap (first (limit_of c.args.merge.now.limit)) (sorted_keys c.args.keys.items c.sort_unstable.new.self.items c.requires c.sort_unstable.ensures.permutation c.sort_unstable.ensures.sorted)

pub returns : goal.returns
returns c =
    subst (λ (rs : List OutRow). IfOk c.short_pair_table.result (λ table. table ≡ map (λ r. map (column_value r.cells) c.args.merge.now.items) rs)) (rows_are c)
    (subst (λ items. IfOk c.short_pair_table.result (λ table. table ≡ map (λ r. map (column_value r.cells) items) (map pair_row (map pair_in c.as_slice.result.now)))) c.as_slice-2.ensures c.short_pair_table.ensures)
