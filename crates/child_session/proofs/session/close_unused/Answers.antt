use Rattle.child_session.proofs.Driving.{closed_manned}
use Rattle.child_session.proofs.session.close_unused.Goals as goal

pub returns : goal.returns
returns g c = record { manned = closed_manned c.args.board.now c.args.seat c.close.result c.requires.first c.close.ensures.called }
