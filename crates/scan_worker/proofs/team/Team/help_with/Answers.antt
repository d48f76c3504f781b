use Rattle.scan_worker.proofs.Making.{asked_by}
use Rattle.scan_worker.proofs.team.Team.help_with.Goals as goal

pub returns-in-Some : goal.returns-in-Some
returns-in-Some g c = λ t. asked_by (g.P.Work.stands (g.E.Engine.root c.args.self.now)) (g.E.Engine.refused c.args.self.now) c.in-Some.claim c.made-piece.result c.made-piece.ensures.answered
