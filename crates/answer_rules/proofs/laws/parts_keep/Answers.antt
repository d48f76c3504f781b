use Rattle.answer_rules.proofs.Keeping.{keeps_joined, first_kept}
use Rattle.answer_rules.proofs.KeptTwice.{keeps_again}
use Rattle.answer_rules.proofs.Cutting.{keeps_first_of_order}
use Rattle.answer_rules.proofs.Sublists.{kept_sublist}
use Rattle.answer_rules.proofs.laws.parts_keep.Goals as goal

pub returns-clause-join : goal.returns-clause-join
returns-clause-join g c = keeps_joined g.X.Ord.cmp

pub returns-clause-again : goal.returns-clause-again
returns-clause-again g c = keeps_again g.X.Ord.cmp g.met.X.Ord.total

pub returns-clause-cut : goal.returns-clause-cut
returns-clause-cut g c = keeps_first_of_order g.X.Ord.cmp g.met.X.Ord.total

pub returns-clause-end : goal.returns-clause-end
returns-clause-end g c = first_kept g.X.Ord.cmp g.met.X.Ord.total

pub returns-clause-sublist : goal.returns-clause-sublist
returns-clause-sublist g c = kept_sublist g.X.Ord.cmp g.met.X.Ord.total
