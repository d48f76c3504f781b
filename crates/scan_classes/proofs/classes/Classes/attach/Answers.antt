use Rattle.std.proofs.Common.{sym, ◌∙◌}
use Rattle.scan_classes.specs.declared.class.Class.TheVariants.{Short, Long}
use Rattle.scan_classes.proofs.PairLemmas.{after_long, after_short}
use Rattle.scan_classes.proofs.ClassLines.{attach_adds}
use Rattle.scan_classes.proofs.classes.Classes.attach.Goals as goal

pub invariant_of-result : goal.invariant_of-result
invariant_of-result g c = after_short g.P.Work.asks _ (record { short = c.pair.inside.short; long = c.pair.inside.long }) c.attach-answer.result.1 c.attach-answer.ensures.called
    (attach_adds Short _ _ _ c.args.q c.args.chunks c.args.empty c.attach-answer.result.0 (sym c.of.ensures ∙ c.in-Short.is) c.attach-answer.ensures.called.answer) c.pair.invariant

pub invariant_of-result-in-Long : goal.invariant_of-result-in-Long
invariant_of-result-in-Long g c = after_long g.P.Work.asks _ (record { short = c.pair.inside.short; long = c.pair.inside.long }) c.attach-answer-in-Long.result.1 c.attach-answer-in-Long.ensures.called
    (attach_adds Long _ _ _ c.args.q c.args.chunks c.args.empty c.attach-answer-in-Long.result.0 (sym c.of.ensures ∙ c.in-Long.is) c.attach-answer-in-Long.ensures.called.answer) c.pair.invariant
