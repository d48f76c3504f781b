use Rattle.std.proofs.Common.{heap_items, arith}
use Rattle.answer_rules.proofs.KeptTwice.{keeps_late}
use Rattle.partial_rows.specs.Rows.{rank_order}
use Rattle.partial_rows.proofs.Offering.{added}
use Rattle.partial_rows.proofs.heap.offer.Goals as goal

pub returns-then-len-limit-clause-kept : goal.returns-then-len-limit-clause-kept
returns-then-len-limit-clause-kept c = added c.args.limit (heap_items c.args.heap.now) (heap_items c.add.new.heap) c.args.row c.add.ensures.same

pub returns-then-comes_late-clause-kept : goal.returns-then-comes_late-clause-kept
returns-then-comes_late-clause-kept c =
    keeps_late rank_order c.args.limit (heap_items c.args.heap.now) c.args.row (omega (arith, c.if-len-limit.false, c.len.ensures)) c.if-comes_late.ensures.late
