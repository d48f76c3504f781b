use Rattle.turn_lock.proofs.Ends.{entries_are_kept}
use Rattle.turn_lock.proofs.laws.every_entry_is_kept_once_all_seats_have_ended.Goals as goal

pub returns : goal.returns
returns g c = entries_are_kept _ g.T.Lineage.seat_of
