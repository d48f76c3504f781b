use Rattle.std.proofs.Common.{ap, is_some}
use Rattle.child_session.proofs.Scanning.{can_run, stands}
use Rattle.child_session.proofs.engine.ChildEngineEngineChildPiece.piece.Goals as goal

pub query_with-query-requires : goal.query_with-query-requires
query_with-query-requires c = ap is_some c.requires.asked.known

pub child_scan-requires-clause-child : goal.child_scan-requires-clause-child
child_scan-requires-clause-child c =
    let s = c.args.self.now in
    can_run s.world.now s.queries.now c.args.q c.args.chunk _ c.requires.asked c.query_with-query.ensures

pub returns-clause-stands : goal.returns-clause-stands
returns-clause-stands c =
    let s = c.args.self.now in
    stands s.world.now s.queries.now c.args.q c.args.chunk _ _ _ c.requires.asked c.query_with-query.ensures
    (rw (c.store.ensures.plan, c.store.ensures.rows, c.sources.ensures.table) at c.child_scan.ensures)
