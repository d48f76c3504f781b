use Rattle.scan_classes.specs.declared.class.Class.TheVariants.{Short, Long}
use Rattle.scan_classes.proofs.PairLemmas.{after_long, after_short}
use Rattle.scan_classes.proofs.ClassLines.{cancel_adds}
use Rattle.scan_classes.proofs.classes.Classes.cancel.Goals as goal

pub invariant_of-result : goal.invariant_of-result
invariant_of-result g c = after_short g.P.Work.asks _ (record { short = c.pair.inside.short; long = c.pair.inside.long }) c.cancel-ran.result.1 c.cancel-ran.ensures.called
    (cancel_adds Short _ _ _ c.args.q c.cancel-ran.result.0 c.cancel-ran.ensures.called.answer) c.pair.invariant

pub invariant_of-result-in-Long : goal.invariant_of-result-in-Long
invariant_of-result-in-Long g c = after_long g.P.Work.asks _ (record { short = c.pair.inside.short; long = c.pair.inside.long }) c.cancel-ran-in-Long.result.1 c.cancel-ran-in-Long.ensures.called
    (cancel_adds Long _ _ _ c.args.q c.cancel-ran-in-Long.result.0 c.cancel-ran-in-Long.ensures.called.answer) c.pair.invariant
