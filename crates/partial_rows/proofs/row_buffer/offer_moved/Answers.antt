use Rattle.std.proofs.Common.{◌++◌, ◌∷◌, [], Some, heap_items, subst, arith}
use Rattle.answer_rules.specs.Keeps.{KeepsFirst}
use Rattle.partial_rows.specs.Rows.{rank_order}
use Rattle.partial_rows.specs.declared.ranked.Ranked.{Ranked}
use Rattle.partial_rows.proofs.Offering.{one_more}
use Rattle.partial_rows.proofs.row_buffer.offer_moved.Goals as goal

pub loop-other-preserved : goal.loop-other-preserved
loop-other-preserved c =
    record {
      order = c.offer.ensures.order;
      few = c.offer.ensures.few;
      room = omega (arith, c.offer.ensures.grown, c.offer.ensures.capacity, c.loop-other.invariant.room);
      kept = one_more c.args.limit (heap_items c.args.heap.now) (heap_items c.loop-other.heap) (heap_items c.offer.new.heap) c.args.others.now c.args.by c.loop-other.other-index _ c.loop-other-test.true c.loop-other.invariant.kept
          (subst (λ (r : Ranked). KeepsFirst rank_order (Some c.args.limit) (heap_items c.loop-other.heap ++ r ∷ []) (heap_items c.offer.new.heap)) c.moved.ensures c.offer.ensures.kept);
    }
