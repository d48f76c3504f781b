use Rattle.std.proofs.Common.{◌≡◌, ◌++◌, ◌∷◌, ◌+◌, [], ℤ, List, Option, length, arith, subst, sym, ap, ◌∙◌}
use Rattle.answer_rules.specs.Keeps.{KeepsFirst}
use Rattle.answer_rules.specs.Ranks.{row_order}
use Rattle.std.specs.List.{All}
use Rattle.partial_rows.specs.Multisets.{out_row, pushed_in, ranked_at, ranks_in, rows_in}
use Rattle.partial_rows.specs.Rows.{IsIn, rank_order}
use Rattle.partial_rows.specs.declared.ranked.Ranked.{Ranked}
use Rattle.partial_rows.proofs.Putting.{put_kept, put_there}
use Rattle.partial_rows.proofs.buffer_cells.put_row.Goals as goal

-- the values behind those that were there
new_cells : (c : goal.After-put_values) → c.put_values.new.cells.items ≡ c.args.cells.now.items ++ c.args.values.now
new_cells c = c.put_values.ensures ∙ ap (λ cells. cells ++ c.args.values.now) c.reserve.ensures.same

-- what is kept of the rows that were there and this one
kept_with : (c : goal.After-put_values) → KeepsFirst rank_order (pushed_in c.args.buffer.now) (ranks_in c.args.buffer.now ++ ranked_at c.args.rank.now (length c.args.cells.now.items) (length c.args.cells.now.items + length c.args.values.now) ∷ []) (ranks_in c.put.new.buffer)
kept_with c =
    let row : c.at.result ≡ ranked_at c.args.rank.now (length c.args.cells.now.items) (length c.args.cells.now.items + length c.args.values.now) =
    c.at.ensures ∙ ap (λ n. ranked_at c.args.rank.now n (n + length c.args.values.now)) (c.len-from.ensures ∙ c.args.cells.now.ok.0)
    in
    subst (λ (r : Ranked). KeepsFirst rank_order (pushed_in c.args.buffer.now) (ranks_in c.args.buffer.now ++ r ∷ []) (ranks_in c.put.new.buffer)) row c.in_ok-put.ensures.kept

pub returns-clause-mine : goal.returns-clause-mine
returns-clause-mine c = (
  subst (λ (cells : List (Option ℤ)). All (IsIn (length cells)) (ranks_in c.put.new.buffer)) (sym (new_cells c)) (put_there c.args.cells.now.items c.args.values.now c.args.rank.now (pushed_in c.args.buffer.now) (ranks_in c.args.buffer.now) (ranks_in c.put.new.buffer) c.requires.mine.0 (kept_with c)),
  c.put.ensures.ordered,
)

pub returns-clause-kept : goal.returns-clause-kept
returns-clause-kept c =
    subst (λ (cells : List (Option ℤ)). KeepsFirst row_order (pushed_in c.args.buffer.now) (rows_in c.args.cells.now.items c.args.buffer.now ++ out_row c.args.rank.now c.args.values.now ∷ []) (rows_in cells c.put.new.buffer)) (sym (new_cells c))
    (put_kept c.args.cells.now.items c.args.values.now c.args.rank.now (pushed_in c.args.buffer.now) (ranks_in c.args.buffer.now) (ranks_in c.put.new.buffer) c.requires.mine.0 (kept_with c))

pub overflow_add-from : goal.overflow_add-from
overflow_add-from c =
    omega (arith, c.len-from.ensures, c.args.cells.now.ok.0, c.in_ok-reserve.ensures.room, ap length c.reserve.ensures.same, c.reserve.new.list.ok.0, c.reserve.new.list.small)
