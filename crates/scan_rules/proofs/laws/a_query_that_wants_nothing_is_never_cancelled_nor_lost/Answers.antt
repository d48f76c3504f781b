use Rattle.scan_rules.proofs.Wishes.{no_wish_no_loss}
use Rattle.scan_rules.proofs.laws.a_query_that_wants_nothing_is_never_cancelled_nor_lost.Goals as goal

pub returns : goal.returns
returns c = no_wish_no_loss
