use Rattle.std.proofs.Common.{◌+◌, Bool, List, arith, subst, sym, take}
use Rattle.std.proofs.lemmas.List.{take_all}
use Rattle.answer_rules.specs.declared.rewritten.ChunkItem.{ChunkItem}
use Rattle.chunk_group_scan.specs.Ungrouped.{AreCounted}
use Rattle.chunk_group_scan.proofs.Ungrouping.{counted_more}
use Rattle.chunk_group_scan.proofs.ungrouped.all_counts.Goals as goal

pub loop-item-preserved : goal.loop-item-preserved
loop-item-preserved c =
    subst (λ (l : List Bool). AreCounted (take (c.loop-item.item-index + 1) c.args.items.now) l) (sym c.in_ok-push.ensures.items)
    (counted_more c.args.items.now c.loop-item.item-index c.item-item.result c.loop-item.counted.items c.in-Some.one
    (omega (arith, c.loop-item-test.true)) c.item-item.is c.loop-item.invariant c.in-Some.ensures)

pub returns : goal.returns
returns c =
    subst (λ (l : List ChunkItem). AreCounted l c.loop-item.counted.items)
    (take_all c.loop-item.item-index c.args.items.now (omega (arith, c.loop-item-test.false))) c.loop-item.invariant
