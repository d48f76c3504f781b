use Rattle.std.proofs.Common.{◌∙◌}
use Rattle.scan_classes.specs.declared.class.Class.TheVariants.{Short, Long}
use Rattle.scan_tests.proofs.TwoBoards.{class_take_stays}
use Rattle.scan_tests.proofs.classes.take.Goals as goal

pub returns-in-Short-clause-short : goal.returns-in-Short-clause-short
returns-in-Short-clause-short g c =
    let it = c.take-answer in
    let s = class_take_stays _ c.args.pair it.result.0 it.result.1 it.ensures.answer Short in
    (s.turn ∙ c.requires.short.0, s.ring ∙ c.requires.short.1)

pub returns-in-Short-clause-long : goal.returns-in-Short-clause-long
returns-in-Short-clause-long g c =
    let it = c.take-answer in
    let s = class_take_stays _ c.args.pair it.result.0 it.result.1 it.ensures.answer Long in
    (s.turn ∙ c.requires.long.0, s.ring ∙ c.requires.long.1)

pub returns-in-Long-clause-short : goal.returns-in-Long-clause-short
returns-in-Long-clause-short g c =
    let it = c.take-answer in
    let s = class_take_stays _ c.args.pair it.result.0 it.result.1 it.ensures.answer Short in
    (s.turn ∙ c.requires.short.0, s.ring ∙ c.requires.short.1)

pub returns-in-Long-clause-long : goal.returns-in-Long-clause-long
returns-in-Long-clause-long g c =
    let it = c.take-answer in
    let s = class_take_stays _ c.args.pair it.result.0 it.result.1 it.ensures.answer Long in
    (s.turn ∙ c.requires.long.0, s.ring ∙ c.requires.long.1)

pub returns-in_default-clause-short : goal.returns-in_default-clause-short
returns-in_default-clause-short g c =
    let it = c.take-answer in
    let s = class_take_stays _ c.args.pair it.result.0 it.result.1 it.ensures.answer Short in
    (s.turn ∙ c.requires.short.0, s.ring ∙ c.requires.short.1)

pub returns-in_default-clause-long : goal.returns-in_default-clause-long
returns-in_default-clause-long g c =
    let it = c.take-answer in
    let s = class_take_stays _ c.args.pair it.result.0 it.result.1 it.ensures.answer Long in
    (s.turn ∙ c.requires.long.0, s.ring ∙ c.requires.long.1)
