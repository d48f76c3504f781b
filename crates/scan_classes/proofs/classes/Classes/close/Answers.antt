use Rattle.scan_classes.specs.declared.class.Class.TheVariants.{Short, Long}
use Rattle.scan_classes.proofs.PairLemmas.{after_long, after_short}
use Rattle.scan_classes.proofs.ClassLines.{close_adds}
use Rattle.scan_classes.proofs.classes.Classes.close.Goals as goal

pub invariant_of-result : goal.invariant_of-result
invariant_of-result g c = after_long g.P.Work.asks _ (record { short = c.close-short.result; long = c.pair.inside.long }) c.close-long.result c.close-long.ensures.called
    (close_adds Long _ _ _ c.close-long.ensures.called.answer)
    (after_short g.P.Work.asks _ (record { short = c.pair.inside.short; long = c.pair.inside.long }) c.close-short.result c.close-short.ensures.called (close_adds Short _ _ _ c.close-short.ensures.called.answer) c.pair.invariant)
