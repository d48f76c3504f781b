use Rattle.scan_worker.specs.Missing.{NoneIsRefused}
use Rattle.scan_worker.specs.Opened.{AreMade}
use Rattle.scan_worker.proofs.team.Team.make_missing.Given as goal

abbrev pub invariant-loop-turn : goal.invariant-loop-turn
invariant-loop-turn g l =
    AreMade (g.P.Work.stands (g.E.Engine.root l.self)) l.task.chunk l.task.queries l.pieces
    × NoneIsRefused (g.E.Engine.refused l.self) l.task l.pieces l.turn
