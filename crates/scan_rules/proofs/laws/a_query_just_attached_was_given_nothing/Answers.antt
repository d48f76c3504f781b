use Rattle.scan_rules.proofs.Wishes.{fresh_has_nothing}
use Rattle.scan_rules.proofs.laws.a_query_just_attached_was_given_nothing.Goals as goal

pub returns : goal.returns
returns c = fresh_has_nothing
