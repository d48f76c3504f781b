use Rattle.std.proofs.Common.{ap, is_some}
use Rattle.czar.proofs.Scanning.{open_for, sound_for, stands}
use Rattle.czar.proofs.chunk_engine.ChunkEngineEnginePiece.piece.Goals as goal

pub query_with-query-requires-clause-ascend : goal.query_with-query-requires-clause-ascend
query_with-query-requires-clause-ascend c = c.requires.asked.base.ascend

pub query_with-query-requires-clause-known : goal.query_with-query-requires-clause-known
query_with-query-requires-clause-known c = ap is_some c.requires.asked.known

pub piece_of-requires-clause-open : goal.piece_of-requires-clause-open
piece_of-requires-clause-open c =
    let s = c.args.self.now in
    open_for s.world.now.plan s.world.now.rows s.queries.now c.args.q c.args.chunk _ c.requires.asked c.query_with-query.ensures

pub piece_of-requires-clause-sound : goal.piece_of-requires-clause-sound
piece_of-requires-clause-sound c =
    let s = c.args.self.now in
    sound_for s.world.now.plan s.world.now.rows s.queries.now c.args.q c.args.chunk _ c.requires.asked c.query_with-query.ensures

pub returns-clause-stands : goal.returns-clause-stands
returns-clause-stands c =
    let s = c.args.self.now in
    stands s.world.now.plan s.world.now.rows s.queries.now c.args.q c.args.chunk _ _ _ c.requires.asked c.query_with-query.ensures c.piece_of.ensures
