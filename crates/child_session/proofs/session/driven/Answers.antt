use Rattle.child_session.specs.ChildAttached.{child_board_of}
use Rattle.child_session.specs.ChildQueryPlans.{child_plans_of}
use Rattle.child_session.proofs.Driving.{own_root}
use Rattle.child_session.proofs.session.driven.Goals as goal

pub returns-in-Ok-clause-driven : goal.returns-in-Ok-clause-driven
returns-in-Ok-clause-driven g c = c.driven_at.ensures.driven

pub returns-in-Ok-clause-manned : goal.returns-in-Ok-clause-manned
returns-in-Ok-clause-manned g c = c.driven_at.ensures.manned

pub returns-in-Ok-clause-made : goal.returns-in-Ok-clause-made
returns-in-Ok-clause-made g c = c.driven_at.ensures.made

pub close_unused-requires : goal.close_unused-requires
close_unused-requires g c = record {
  first = own_root c.args.board.now c.args.seat (child_board_of c.args.session.now.world.now (child_plans_of c.args.plans.now)) c.requires.seat;
}

pub returns-in-Err-clause-manned : goal.returns-in-Err-clause-manned
returns-in-Err-clause-manned g c = c.close_unused.ensures.manned
