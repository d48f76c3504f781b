use Rattle.std.proofs.Common.{All, List, Some, length, heap_items, subst, sym}
use Rattle.partial_rows.specs.declared.ranked.Ranked.{Ranked}
use Rattle.partial_rows.specs.Rows.{IsIn}
use Rattle.partial_rows.proofs.Vacuuming.{none_there, vacuumed_kept}
use Rattle.partial_rows.proofs.vacuum.vacuum_heap.Goals as goal

pub put_rows-requires-clause-there : goal.put_rows-requires-clause-there
put_rows-requires-clause-there c =
    subst (λ cs. All (IsIn (length cs)) c.as_slice.result.now) (sym c.as_slice-2.ensures.value)
    (subst (λ (rs : List Ranked). All (IsIn (length c.args.cells.now.items)) rs) (sym c.as_slice.ensures.value) c.requires.mine)

pub put_rows-requires-clause-mine : goal.put_rows-requires-clause-mine
put_rows-requires-clause-mine c = none_there _ _ c.new-rows.ensures.items

pub join_first-requires-clause-mine : goal.join_first-requires-clause-mine
join_first-requires-clause-mine c = none_there _ _ c.new-left.ensures.items

pub join_first-requires-clause-theirs : goal.join_first-requires-clause-theirs
join_first-requires-clause-theirs c =
    subst (λ (rs : List Ranked). All (IsIn (length c.put_rows.new.live.items)) rs) (sym c.as_slice-3.ensures.value) c.in_ok-put_rows.ensures.mine

pub returns-clause-kept : goal.returns-clause-kept
returns-clause-kept c =
    vacuumed_kept (Some c.args.limit) c.args.cells.now.items c.as_slice-2.result.now c.new-live.result.items c.put_rows.new.live.items c.new-fresh.result.items c.join_first.new.cells.items (heap_items c.args.heap.now) c.as_slice.result.now c.new-rows.result.items c.put_rows.new.rows.items c.as_slice-3.result.now (heap_items c.new-left.result) (heap_items c.join_first.new.heap)
    c.as_slice.ensures.value c.as_slice-2.ensures.value c.new-rows.ensures.items c.new-left.ensures.items c.as_slice-3.ensures.value c.in_ok-put_rows.ensures.same c.in_ok-join_first.ensures.joined
