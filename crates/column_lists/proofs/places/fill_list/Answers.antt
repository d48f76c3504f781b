use Rattle.column_lists.proofs.Filling.{filled_front}
use Rattle.column_lists.proofs.places.fill_list.Goals as goal

pub returns-clause-front : goal.returns-clause-front
returns-clause-front g c = filled_front _ _ _ _ _ _ c.requires.more c.requires.so_far c.fill.ensures
