use Rattle.std.proofs.Common.{sym, ◌∙◌, arith}
use Rattle.turn_lock.proofs.Publishing.{adds_at}
use Rattle.turn_lock.proofs.pass.publish_said.Goals as goal

pub store-requires : goal.store-requires
store-requires g c = (
  c.requires.own ∙ sym c.turn.view_is,
  omega (arith, c.turn.invariant.0),
  adds_at g.T.Lineage.root g.T.Lineage.past g.T.Lineage.seat_of c.turn.inside.table.shared.table_id.slots c.args.inner.now.id c.args.inner.now.me g.W.Said.said c.args.word
      (g.T.Lineage.past c.args.value.now)
      c.turn.invariant.1 c.requires.holder.0 c.requires.holder.1 c.requires.mine c.requires.said c.requires.word,
)
