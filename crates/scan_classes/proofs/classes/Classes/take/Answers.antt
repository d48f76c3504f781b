use Rattle.std.proofs.Common.{subst, sym}
use Rattle.scan_classes.specs.declared.class.Class.TheVariants.{Short, Long}
use Rattle.scan_classes.specs.ClassTakes.{HasClassTask}
use Rattle.scan_classes.specs.Pairs.{PairSeat}
use Rattle.scan_classes.specs.declared.class.ClassTake.{ClassTake}
use Rattle.scan_classes.proofs.PairLemmas.{after_long, after_short}
use Rattle.scan_classes.proofs.ClassLines.{take_adds}
use Rattle.scan_classes.proofs.TwoTakes.{held_closed, held_open}
use Rattle.scan_classes.proofs.classes.Classes.take.Goals as goal

pub invariant_of-result : goal.invariant_of-result
invariant_of-result g c = after_short g.P.Work.asks _ (record { short = c.pair.inside.short; long = c.pair.inside.long }) c.take-first.result.1 c.take-first.ensures.called
    (take_adds Short _ _ _ c.take-first.result.0 c.take-first.ensures.called.answer) c.pair.invariant

pub invariant_of-result-in-Idle : goal.invariant_of-result-in-Idle
invariant_of-result-in-Idle g c = after_long g.P.Work.asks _ (record { short = c.take-first.result.1; long = c.pair.inside.long }) c.take-then.result.1 c.take-then.ensures.called
    (take_adds Long _ _ _ c.take-then.result.0 c.take-then.ensures.called.answer)
    (after_short g.P.Work.asks _ (record { short = c.pair.inside.short; long = c.pair.inside.long }) c.take-first.result.1 c.take-first.ensures.called (take_adds Short _ _ _ c.take-first.result.0 c.take-first.ensures.called.answer) c.pair.invariant)

pub returns-in-Idle-clause-holds : goal.returns-in-Idle-clause-holds
returns-in-Idle-clause-holds g c =
    let asks = g.P.Work.asks in
    let new : PairSeat g.row.P-Root.Denot = record { short = c.take-first.result.1; long = c.take-then.result.1 } in
    subst (λ (o : PairSeat g.row.P-Root.Denot). HasClassTask asks o c.after_idle.result new) c.pair.view_is
    (subst (λ (t : ClassTake). HasClassTask asks (record { short = c.pair.inside.short; long = c.pair.inside.long }) t new) (sym c.after_idle.ensures)
    (held_open asks (record { short = c.pair.inside.short; long = c.pair.inside.long }) new c.take-then.result.0 c.take-then.ensures.holds c.take-then.ensures.asked))

pub invariant_of-result-in-Ended : goal.invariant_of-result-in-Ended
invariant_of-result-in-Ended g c = after_long g.P.Work.asks _ (record { short = c.take-first.result.1; long = c.pair.inside.long }) c.take-then-in-Ended.result.1 c.take-then-in-Ended.ensures.called
    (take_adds Long _ _ _ c.take-then-in-Ended.result.0 c.take-then-in-Ended.ensures.called.answer)
    (after_short g.P.Work.asks _ (record { short = c.pair.inside.short; long = c.pair.inside.long }) c.take-first.result.1 c.take-first.ensures.called (take_adds Short _ _ _ c.take-first.result.0 c.take-first.ensures.called.answer) c.pair.invariant)

pub returns-in-Ended-clause-holds : goal.returns-in-Ended-clause-holds
returns-in-Ended-clause-holds g c =
    let asks = g.P.Work.asks in
    let new : PairSeat g.row.P-Root.Denot = record { short = c.take-first.result.1; long = c.take-then-in-Ended.result.1 } in
    subst (λ (o : PairSeat g.row.P-Root.Denot). HasClassTask asks o c.after_ended.result new) c.pair.view_is
    (subst (λ (t : ClassTake). HasClassTask asks (record { short = c.pair.inside.short; long = c.pair.inside.long }) t new) (sym c.after_ended.ensures)
    (held_closed asks (record { short = c.pair.inside.short; long = c.pair.inside.long }) new c.take-then-in-Ended.result.0 c.take-then-in-Ended.ensures.holds c.take-then-in-Ended.ensures.asked))
