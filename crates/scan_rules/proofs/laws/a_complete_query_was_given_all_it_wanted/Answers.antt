use Rattle.scan_rules.proofs.Wishes.{complete_is_given}
use Rattle.scan_rules.proofs.laws.a_complete_query_was_given_all_it_wanted.Goals as goal

pub returns : goal.returns
returns c = complete_is_given
