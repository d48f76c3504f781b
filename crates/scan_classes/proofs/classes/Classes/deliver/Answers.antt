use Rattle.scan_classes.specs.declared.class.Class.TheVariants.{Short, Long}
use Rattle.scan_classes.proofs.PairLemmas.{after_long, after_short}
use Rattle.scan_classes.proofs.ClassLines.{deliver_adds}
use Rattle.scan_classes.proofs.classes.Classes.deliver.Goals as goal

pub invariant_of-t-11 : goal.invariant_of-t-11
invariant_of-t-11 g c = after_short g.P.Work.asks _ (record { short = c.pair.inside.short; long = c.pair.inside.long }) c.deliver-short.result c.deliver-short.ensures.called
    (deliver_adds Short g.P.Work.refuses _ _ _ c.args.task c.args.pieces.items c.deliver-short.ensures.called.answer) c.pair.invariant

pub invariant_of-result : goal.invariant_of-result
invariant_of-result g c = after_long g.P.Work.asks _ (record { short = c.pair.inside.short; long = c.pair.inside.long }) c.deliver-long.result c.deliver-long.ensures.called
    (deliver_adds Long g.P.Work.refuses _ _ _ c.args.task c.args.pieces.items c.deliver-long.ensures.called.answer) c.pair.invariant
