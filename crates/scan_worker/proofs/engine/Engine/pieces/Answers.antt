use Rattle.std.proofs.Common.{rules}
use Rattle.scan_worker.proofs.Making.{answered_next, fit_next}
use Rattle.scan_worker.proofs.engine.Engine.pieces.Goals as goal

pub loop-turn-preserved : goal.loop-turn-preserved
loop-turn-preserved g c = (
  search rules,
  search rules,
  fit_next (g.P.Work.stands (g.Self.Engine.root c.args.self.now)) c.args.task.now.chunk c.queries-queries.result.now c.loop-turn.pieces.items c.push_reserved.new.self.items c.loop-turn.turn c.ok.result c.piece-piece.result _ _ c.piece-piece.ensures.stands c.ok.ensures.value (search rules) (search rules) (search rules) c.loop-turn-test.true c.push_reserved.ensures.items c.loop-turn.invariant.2,
  answered_next (g.Self.Engine.refused c.args.self.now) c.args.task.now c.loop-turn.pieces.items c.push_reserved.new.self.items c.loop-turn.turn c.ok.result c.piece-piece.result c.piece-piece.ensures.refused c.ok.ensures.value (search rules) (search rules) (search rules) c.push_reserved.ensures.items c.loop-turn.invariant.3,
)
