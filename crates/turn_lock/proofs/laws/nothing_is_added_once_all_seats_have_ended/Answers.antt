use Rattle.turn_lock.proofs.Ends.{nothing_is_added}
use Rattle.turn_lock.proofs.laws.nothing_is_added_once_all_seats_have_ended.Goals as goal

pub returns : goal.returns
returns g c = nothing_is_added _ g.T.Lineage.seat_of
