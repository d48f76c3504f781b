use Rattle.turn_lock.proofs.Opening.{opens}
use Rattle.turn_lock.proofs.turn.Turn.new.Goals as goal

pub new-requires : goal.new-requires
new-requires g c =
    rw (c.push_reserved.ensures.items, c.in-Ok.ensures.items, c.of-opened.ensures)
    (opens g.T.Lineage.root g.T.Lineage.past g.T.Lineage.seat_of c.args.value c.requires)
