use Rattle.std.proofs.Common.{sym, ◌∙◌, arith}
use Rattle.turn_lock.proofs.Publishing.{gives_at}
use Rattle.turn_lock.proofs.pass.put_back.Goals as goal

pub store-requires : goal.store-requires
store-requires g c =
    let me = c.args.inner.now.me in (
      c.exchange-out.ensures.0 ∙ (c.requires.own ∙ sym c.turn.view_is),
      omega (arith, c.turn.invariant.0),
      gives_at g.T.Lineage.root g.T.Lineage.past g.T.Lineage.seat_of c.turn.inside.table.shared.table_id.slots c.exchange-out.new.seat.id me.0 me.1 c.exchange-out.new.seat.me c.args.value c.args.word
          c.turn.invariant.1 c.requires.out c.exchange-out.ensures.3 c.requires.holder.0 c.requires.holder.1 c.requires.root c.requires.past c.requires.word,
    )
