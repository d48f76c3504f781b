use Rattle.std.proofs.Common.{sym, ap, ◌∙◌, arith, subst}
use Rattle.turn_lock.specs.Views.{ViewKnows}
use Rattle.turn_lock.specs.declared.view.View.{View}
use Rattle.turn_lock.proofs.Splitting.{made_knows, maker_rests, splits}
use Rattle.turn_lock.proofs.turn.Turn.split.Goals as goal

pub split_seat-inner-requires : goal.split_seat-inner-requires
split_seat-inner-requires g c = (
  ap (λ x. x.turn) c.seat.view_is ∙ (c.requires.own ∙ sym c.self.view_is),
  omega (arith, c.self.invariant.0),
  splits g.T.Lineage.root g.T.Lineage.past g.T.Lineage.seat_of c.seat.inside.inner.id c.seat.inside.inner.me.0
      (ap (λ x. x.number) c.seat.view_is ∙ c.requires.first) c.seat.invariant.live c.seat.invariant.idle,
)

pub invariant_of-seat : goal.invariant_of-seat
invariant_of-seat g c =
    maker_rests c.seat.inside.inner.me c.split_seat-inner.new.seat.me c.split_seat-inner.ensures.2
    (ap (λ x. x.number) c.seat.view_is ∙ c.requires.first) c.seat.invariant

pub returns-clause-known : goal.returns-clause-known
returns-clause-known g c =
    let zero_is = ap (λ x. x.number) c.seat.view_is ∙ c.requires.first in (
      (maker_rests c.seat.inside.inner.me c.split_seat-inner.new.seat.me c.split_seat-inner.ensures.2 zero_is c.seat.invariant).knows,
      subst (λ (v : View g.row.T-Root.Denot g.row.T-Entry.Denot). ViewKnows g.T.Lineage.seat_of v) (sym (ap (λ m. m.0) c.split_seat-inner.ensures.4))
          (made_knows c.seat.inside.inner.me.0 zero_is c.seat.invariant.knows),
    )
