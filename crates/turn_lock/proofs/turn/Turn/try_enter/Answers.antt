use Rattle.std.proofs.Common.{◌∷◌, Some, sym, ap, ◌∙◌, arith}
use Rattle.atomic_table.specs.Table.{rest}
use Rattle.turn_lock.proofs.Entering.{takes_at}
use Rattle.turn_lock.proofs.turn.Turn.try_enter.Goals as goal

pub compare_exchange-found-requires : goal.compare_exchange-found-requires
compare_exchange-found-requires g c = (
  c.requires.own ∙ sym c.self.view_is,
  omega (arith, c.self.invariant.0),
  takes_at g.T.Lineage.root g.T.Lineage.past g.T.Lineage.seat_of c.self.inside.table.shared.table_id.slots c.args.inner.now.id c.args.inner.now.me c.args.word
      c.self.invariant.1 c.requires.live.0 c.requires.live.1 c.requires.even,
)

pub exchange-requires : goal.exchange-requires
exchange-requires g c =
    let won = c.compare_exchange-found.ensures.2.0 c.if-found-word.false in (
      c.compare_exchange-found.ensures.0 ∙ (c.requires.own ∙ sym c.self.view_is),
      (Some won.0, won.1 ∙ ap (λ xs. (0, Some won.0) ∷ xs) (sym (ap rest won.1))),
    )
