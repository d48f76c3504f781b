use Rattle.std.proofs.Common.{ap, ◌∙◌}
use Rattle.scan_tests.proofs.LostAlone.{lost_alone}
use Rattle.scan_tests.proofs.refusals.work_alone.Goals as goal

pub returns-clause-lost : goal.returns-clause-lost
returns-clause-lost g c = lost_alone _ c.args.seat.mine c.worker.result.mine c.requires.none (c.worker.ensures.lost tt)

pub returns-clause-own : goal.returns-clause-own
returns-clause-own g c = ap (λ s. s.turn) (c.worker.ensures.worked tt).same ∙ c.requires.own

pub returns-clause-same : goal.returns-clause-same
returns-clause-same g c = ap (λ s. s.number) (c.worker.ensures.worked tt).same
