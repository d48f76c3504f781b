use Rattle.turn_lock.specs.Seats.{joined_with}
use Rattle.scan_classes.proofs.PairLemmas.{both_is, joined_pair}
use Rattle.scan_classes.proofs.classes.Classes.join.Goals as goal

pub invariant_of-pair : goal.invariant_of-pair
invariant_of-pair g c =
    both_is c.join.new.seat (joined_with c.pair.inside.short c.other.inside.short) c.join-2.new.seat (joined_with c.pair.inside.long c.other.inside.long) c.join.ensures.joined c.join-2.ensures.joined
    (joined_pair (record { short = c.pair.inside.short; long = c.pair.inside.long }) (record { short = c.other.inside.short; long = c.other.inside.long }) c.pair.invariant c.other.invariant)
