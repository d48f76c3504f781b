use Rattle.scan_board.proofs.Ends.{reads_what_was_seen}
use Rattle.scan_board.proofs.laws.what_is_read_was_seen_once_all_seats_have_ended.Goals as goal

pub returns : goal.returns
returns g c = reads_what_was_seen g.P.Work.asks
