use Rattle.near_join.proofs.Joining.{gains_empty}
use Rattle.near_join.proofs.chunk.push_sub.Goals as goal

pub returns-then-is_empty : goal.returns-then-is_empty
returns-then-is_empty c =
    gains_empty c.args.joined.now.store.now.plan c.args.joined.now.store.now.rows.objects c.args.joined.now.query.now c.args.joined.now.reach.now.limit c.args.joined.now.chunk c.args.sub c.args.piece.now (c.is_empty.ensures c.if-is_empty.true) c.requires.of_rows
