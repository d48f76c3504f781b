use Rattle.answer_rules.specs.Bases.{Asks}
use Rattle.scan_board.specs.Calls.{AnswersClose, Called}
use Rattle.scan_classes.specs.Pairs.{seat_at}
use Rattle.scan_classes.proofs.OneOfTwo.{by_class}
use Rattle.class_session.proofs.FirstPairs.{closed_manned}
use Rattle.class_session.proofs.session.close_unused.Goals as goal

pub returns : goal.returns
returns g c =
    let w = c.args.session.now.world.now in
    let old = c.args.pair in
    let new = c.close.result in
    record {
      manned =
          closed_manned w.plan w.rows c.args.plans.now c.args.classes.now old c.requires.first new
          (by_class (λ p. Called Asks (AnswersClose (seat_at old p).number) (seat_at old p) (seat_at new p)) c.close.ensures.short c.close.ensures.long);
    }
