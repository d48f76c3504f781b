use Rattle.std.proofs.Common.{sym, ap, ◌∙◌}
use Rattle.scan_classes.specs.QueryClasses.{QueryClasses}
use Rattle.scan_classes.specs.declared.class.Class.TheVariants.{Short, Long}
use Rattle.scan_classes.proofs.class_boards.ClassBoardsBoards.join.Goals as goal

pub join-requires-clause-short : goal.join-requires-clause-short
join-requires-clause-short g c = c.requires.own Short ∙ sym (ap (λ (b : QueryClasses). b.turns.short) c.self.view_is)

pub join-requires-clause-long : goal.join-requires-clause-long
join-requires-clause-long g c = c.requires.own Long ∙ sym (ap (λ (b : QueryClasses). b.turns.long) c.self.view_is)

pub join-requires-clause-other_short : goal.join-requires-clause-other_short
join-requires-clause-other_short g c = c.requires.other_own Short ∙ sym (ap (λ (b : QueryClasses). b.turns.short) c.self.view_is)

pub join-requires-clause-other_long : goal.join-requires-clause-other_long
join-requires-clause-other_long g c = c.requires.other_own Long ∙ sym (ap (λ (b : QueryClasses). b.turns.long) c.self.view_is)

pub join-requires-clause-not_first : goal.join-requires-clause-not_first
join-requires-clause-not_first g c = c.requires.not_first Short

pub returns-clause-joined : goal.returns-clause-joined
returns-clause-joined g c Short = c.join.ensures.short
returns-clause-joined g c Long = c.join.ensures.long

pub returns-clause-own_seen : goal.returns-clause-own_seen
returns-clause-own_seen g c Short = c.join.ensures.seen_short
returns-clause-own_seen g c Long = c.join.ensures.seen_long

pub returns-clause-other_seen : goal.returns-clause-other_seen
returns-clause-other_seen g c Short = c.join.ensures.other_seen_short
returns-clause-other_seen g c Long = c.join.ensures.other_seen_long

pub returns-clause-known : goal.returns-clause-known
returns-clause-known g c Short = c.join.ensures.known.0
returns-clause-known g c Long = c.join.ensures.known.1
