use Rattle.bind_rules.proofs.Apart.{group_apart, neg_opened, conj_opened, cond_alone, cond_of_several}
use Rattle.bind_rules.proofs.laws.conditions_are_taken_apart.Goals as goal

pub returns-clause-brackets : goal.returns-clause-brackets
returns-clause-brackets c = group_apart

pub returns-clause-not : goal.returns-clause-not
returns-clause-not c = neg_opened

pub returns-clause-and : goal.returns-clause-and
returns-clause-and c = conj_opened

pub returns-clause-one : goal.returns-clause-one
returns-clause-one c = cond_alone

pub returns-clause-or : goal.returns-clause-or
returns-clause-or c = cond_of_several
