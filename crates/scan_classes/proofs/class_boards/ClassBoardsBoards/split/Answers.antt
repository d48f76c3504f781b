use Rattle.std.proofs.Common.{sym, ap, ◌∙◌}
use Rattle.scan_classes.specs.QueryClasses.{QueryClasses}
use Rattle.scan_classes.specs.declared.class.Class.TheVariants.{Short, Long}
use Rattle.scan_classes.proofs.class_boards.ClassBoardsBoards.split.Goals as goal

pub split-requires-clause-short : goal.split-requires-clause-short
split-requires-clause-short g c = c.requires.own Short ∙ sym (ap (λ (b : QueryClasses). b.turns.short) c.self.view_is)

pub split-requires-clause-long : goal.split-requires-clause-long
split-requires-clause-long g c = c.requires.own Long ∙ sym (ap (λ (b : QueryClasses). b.turns.long) c.self.view_is)

pub split-requires-clause-first : goal.split-requires-clause-first
split-requires-clause-first g c = c.requires.first Short

pub split-requires-clause-room : goal.split-requires-clause-room
split-requires-clause-room g c = c.requires.room Short

pub returns-clause-kept : goal.returns-clause-kept
returns-clause-kept g c Short = c.split.ensures.short
returns-clause-kept g c Long = c.split.ensures.long

pub returns-clause-next : goal.returns-clause-next
returns-clause-next g c Short = c.split.ensures.next_short
returns-clause-next g c Long = c.split.ensures.next_long

pub returns-clause-known : goal.returns-clause-known
returns-clause-known g c Short = (c.split.ensures.known.0, c.split.ensures.next_known.0)
returns-clause-known g c Long = (c.split.ensures.known.1, c.split.ensures.next_known.1)
