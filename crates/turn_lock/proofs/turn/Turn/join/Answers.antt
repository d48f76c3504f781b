use Rattle.std.proofs.Common.{sym, ap, ◌∙◌, arith}
use Rattle.turn_lock.specs.Views.{joining}
use Rattle.turn_lock.proofs.Joining.{joins, hears_at}
use Rattle.turn_lock.proofs.turn.Turn.join.Goals as goal

pub join_seat-requires : goal.join_seat-requires
join_seat-requires g c = (
  ap (λ x. x.turn) c.seat.view_is ∙ (c.requires.own.0 ∙ sym c.self.view_is),
  ap (λ x. x.turn) c.other.view_is ∙ (c.requires.own.1 ∙ sym c.self.view_is),
  c.other.invariant.slots,
  omega (arith, c.self.invariant.0),
  joins g.T.Lineage.root g.T.Lineage.past g.T.Lineage.seat_of c.seat.inside.inner.id c.seat.inside.inner.me.0 c.other.inside.inner.id c.other.inside.inner.me.0
      c.seat.invariant.live c.other.invariant.live c.seat.invariant.idle c.other.invariant.idle,
)

pub load-requires : goal.load-requires
load-requires g c =
    let v = joining c.seat.inside.inner.me.0 c.other.inside.inner.me.0 in (
      c.join_seat.ensures.0 ∙ (ap (λ x. x.turn) c.seat.view_is ∙ (c.requires.own.0 ∙ sym c.self.view_is)),
      omega (arith, c.self.invariant.0),
      hears_at g.T.Lineage.root g.T.Lineage.past g.T.Lineage.seat_of c.self.inside.table.shared.table_id.slots c.join_seat.new.seat.id v c.seat.inside.inner.me.1 c.join_seat.new.seat.me
          c.join_seat.ensures.2 c.seat.invariant.slots c.seat.invariant.live,
    )
