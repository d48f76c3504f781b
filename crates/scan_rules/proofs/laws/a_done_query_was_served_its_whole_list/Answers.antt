use Rattle.scan_rules.proofs.Serving.{done_is_served}
use Rattle.scan_rules.proofs.laws.a_done_query_was_served_its_whole_list.Goals as goal

pub returns : goal.returns
returns c ring past q chunk run done wanted = done_is_served past q chunk run done wanted
