use Rattle.scan_rules.proofs.Wishes.{given_grows}
use Rattle.scan_rules.proofs.laws.a_deliver_adds_its_chunk_to_what_was_given.Goals as goal

pub returns : goal.returns
returns c = given_grows
