use Rattle.std.proofs.Common.{arith, heap_items, refl}
use Rattle.partial_rows.proofs.Offering.{behind_all, reported_behind}
use Rattle.partial_rows.proofs.heap.comes_late.Goals as goal

pub returns-in-Some-clause-late : goal.returns-in-Some-clause-late
returns-in-Some-clause-late c =
    behind_all c.args.row.now c.in-Some.last.now (heap_items c.args.heap.now) (c.in-Some.ensures.greatest c.requires.order) c.is_behind.result c.is_behind.ensures

pub returns-in-Some-clause-reported : goal.returns-in-Some-clause-reported
returns-in-Some-clause-reported c =
    reported_behind c.args.row.now c.in-Some.last.now (heap_items c.args.heap.now) (omega (arith, c.in-Some.ensures.variant.0 refl)) c.in-Some.ensures.lookup c.is_behind.result c.is_behind.ensures
