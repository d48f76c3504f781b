use Rattle.scan_core.proofs.OneMore.{one_more_has}
use Rattle.scan_core.proofs.laws.a_list_of_one_more_chunk_has_it_and_the_others.Goals as goal

pub returns : goal.returns
returns c = one_more_has
