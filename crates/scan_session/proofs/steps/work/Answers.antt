use Rattle.scan_session.proofs.steps.work.Goals as goal

pub work_once-round-requires-clause-own : goal.work_once-round-requires-clause-own
work_once-round-requires-clause-own g c = c.requires.own

pub work_once-round-requires-clause-root : goal.work_once-round-requires-clause-root
work_once-round-requires-clause-root g c = c.requires.engine

pub work_once-round-requires-clause-delivered : goal.work_once-round-requires-clause-delivered
work_once-round-requires-clause-delivered g c = λ p. (c.requires.czar p).delivered
