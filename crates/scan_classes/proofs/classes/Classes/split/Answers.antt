use Rattle.turn_lock.specs.Seats.{one_more_made}
use Rattle.scan_classes.proofs.PairLemmas.{both_is, split_pair}
use Rattle.scan_classes.proofs.classes.Classes.split.Goals as goal

pub invariant_of-pair : goal.invariant_of-pair
invariant_of-pair g c =
    both_is c.split-short.new.seat (one_more_made c.pair.inside.short) c.split-long.new.seat (one_more_made c.pair.inside.long) c.split-short.ensures.kept c.split-long.ensures.kept
    (split_pair (record { short = c.pair.inside.short; long = c.pair.inside.long }) c.pair.invariant)
