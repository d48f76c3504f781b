use Rattle.std.proofs.Common.{subst}
use Rattle.scan_worker.specs.Missing.{MayLose}
use Rattle.scan_session.specs.Crews.{MannedBy}
use Rattle.scan_session.proofs.crew.teamed.Goals as goal

pub returns-clause-ran : goal.returns-clause-ran
returns-clause-ran g c = c.manned.ensures.ran

pub returns-clause-manned : goal.returns-clause-manned
returns-clause-manned g c =
    subst (λ e. (p : _) → MannedBy g.P.Work.asks (MayLose (g.E.Engine.refused e) (g.E.Engine.unlisted e (g.E.Engine.refused e)) g.P.Work.refuses (g.P.Work.stands (g.E.Engine.root e))) c.args.workers (g.B.Tasks.at c.args.seat p) (g.B.Tasks.at c.manned.result.2 p))
    c.new-team.ensures c.manned.ensures.manned
