use Rattle.std.proofs.Common.{◌∙◌}
use Rattle.scan_classes.specs.Pairs.{class_of}
use Rattle.scan_classes.specs.declared.class.Class.TheVariants.{Short, Long}
use Rattle.scan_tests.proofs.TwoBoards.{called_at_stays, in_ring_at}
use Rattle.scan_tests.proofs.classes.attach.Goals as goal

pub attach-class-requires-clause-in_ring : goal.attach-class-requires-clause-in_ring
attach-class-requires-clause-in_ring g c =
    in_ring_at c.args.pair (class_of c.in-Ok.chunks) c.in-Ok.chunks c.requires.short.1 c.requires.long.1 c.in-Ok.ensures

pub attach-class-requires-clause-asked : goal.attach-class-requires-clause-asked
attach-class-requires-clause-asked g c = c.in-Ok.ensures

pub returns-after-matches-clause-short : goal.returns-after-matches-clause-short
returns-after-matches-clause-short g c =
    let it = c.attach-class in
    let s = called_at_stays _ _ it.result.0 c.args.pair it.result.2 it.ensures.called Short in
    (s.turn ∙ c.requires.short.0, s.ring ∙ c.requires.short.1)

pub returns-after-matches-clause-long : goal.returns-after-matches-clause-long
returns-after-matches-clause-long g c =
    let it = c.attach-class in
    let s = called_at_stays _ _ it.result.0 c.args.pair it.result.2 it.ensures.called Long in
    (s.turn ∙ c.requires.long.0, s.ring ∙ c.requires.long.1)
