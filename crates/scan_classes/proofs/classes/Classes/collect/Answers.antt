use Rattle.scan_classes.specs.declared.class.Class.TheVariants.{Short, Long}
use Rattle.scan_classes.proofs.PairLemmas.{after_long, after_short}
use Rattle.scan_classes.proofs.ClassLines.{collect_adds}
use Rattle.scan_classes.proofs.classes.Classes.collect.Goals as goal

pub invariant_of-result : goal.invariant_of-result
invariant_of-result g c = after_short g.P.Work.asks _ (record { short = c.pair.inside.short; long = c.pair.inside.long }) c.collect-end.result.1 c.collect-end.ensures.called
    (collect_adds Short g.P.Work.stands _ _ _ c.args.q c.collect-end.result.0 c.collect-end.ensures.called.answer) c.pair.invariant

pub invariant_of-result-in-Long : goal.invariant_of-result-in-Long
invariant_of-result-in-Long g c = after_long g.P.Work.asks _ (record { short = c.pair.inside.short; long = c.pair.inside.long }) c.collect-end-in-Long.result.1 c.collect-end-in-Long.ensures.called
    (collect_adds Long g.P.Work.stands _ _ _ c.args.q c.collect-end-in-Long.result.0 c.collect-end-in-Long.ensures.called.answer) c.pair.invariant
