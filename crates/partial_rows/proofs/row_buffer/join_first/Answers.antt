use Rattle.std.proofs.Common.{◌++◌, ℤ, List, Option, Some, map, length, All, heap_items, subst, sym, ◌≡◌, ◌+◌, arith, length-append, ap, ◌∙◌}
use Rattle.answer_rules.specs.Keeps.{KeepsFirst}
use Rattle.answer_rules.specs.Ranks.{row_order}
use Rattle.answer_rules.specs.declared.row.OutRow.{OutRow}
use Rattle.answer_rules.proofs.KeptTwice.{all_kept}
use Rattle.partial_rows.specs.declared.ranked.Ranked.{Ranked}
use Rattle.partial_rows.specs.Rows.{IsIn, moved, rank_order, row_of}
use Rattle.partial_rows.proofs.Growing.{rows_joined, rows_kept, joined_there}
use Rattle.partial_rows.proofs.row_buffer.join_first.Goals as goal

-- what is kept of the rows that were there and of the others
kept_of_both : (c : goal.After-offer_moved) → KeepsFirst rank_order (Some c.args.limit) (heap_items c.args.heap.now ++ map (moved (length c.args.cells.now.items)) c.args.others.now) (heap_items c.offer_moved.new.heap)
kept_of_both c =
    subst (λ n. KeepsFirst rank_order (Some c.args.limit) (heap_items c.args.heap.now ++ map (moved n) c.args.others.now) (heap_items c.offer_moved.new.heap)) (c.len-by.ensures ∙ c.args.cells.now.ok.0)
    (subst (λ rows. KeepsFirst rank_order (Some c.args.limit) (rows ++ map (moved c.len-by.result) c.args.others.now) (heap_items c.offer_moved.new.heap)) c.reserve_in.ensures.same c.offer_moved.ensures.kept)

pub returns-clause-joined : goal.returns-clause-joined
returns-clause-joined c =
    let cells : List (Option ℤ) = c.args.cells.now.items ++ c.args.more.items in
    let mine : List Ranked = heap_items c.args.heap.now in
    let kept : List Ranked = heap_items c.offer_moved.new.heap in
    subst (λ cs. KeepsFirst row_order (Some c.args.limit) (map (row_of c.args.cells.now.items) mine ++ map (row_of c.args.more.items) c.args.others.now) (map (row_of cs) kept)) (sym c.in_ok-append.ensures.ok)
    (subst (λ (rows : List OutRow). KeepsFirst row_order (Some c.args.limit) rows (map (row_of cells) kept)) (rows_joined c.args.cells.now.items c.args.more.items mine c.args.others.now c.requires.mine)
    (rows_kept cells (Some c.args.limit) _ kept (kept_of_both c)))

pub returns-clause-there : goal.returns-clause-there
returns-clause-there c =
    let there : All (IsIn (length (c.args.cells.now.items ++ c.args.more.items))) (heap_items c.args.heap.now ++ map (moved (length c.args.cells.now.items)) c.args.others.now) =
    joined_there c.args.cells.now.items c.args.more.items (heap_items c.args.heap.now) c.args.others.now c.requires.mine c.requires.theirs
    in
    subst (λ cells. All (IsIn (length cells)) (heap_items c.offer_moved.new.heap)) (sym c.in_ok-append.ensures.ok)
    (all_kept rank_order (IsIn (length (c.args.cells.now.items ++ c.args.more.items))) (Some c.args.limit) _ _ (kept_of_both c) there)

-- the values of both stand in one list, which has no more than a list can
pub offer_moved-requires-clause-fits : goal.offer_moved-requires-clause-fits
offer_moved-requires-clause-fits c =
    let long : length c.append.new.list.items ≡ length c.args.cells.now.items + length c.args.more.items = ap length c.in_ok-append.ensures.ok ∙ length-append c.args.cells.now.items c.args.more.items in
    omega (arith, long, c.len-by.ensures, c.args.cells.now.ok.0, c.len-count.ensures, c.args.more.ok.0, c.append.new.list.ok.0, c.append.new.list.ok.1, c.append.new.list.small)
