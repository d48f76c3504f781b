use Rattle.std.proofs.Common.{sym, ap, ◌∙◌}
use Rattle.scan_classes.specs.QueryClasses.{QueryClasses}
use Rattle.scan_classes.specs.declared.class.Class.TheVariants.{Short, Long}
use Rattle.scan_classes.proofs.class_boards.ClassBoardsBoards.attach.Goals as goal

pub attach-class-requires-clause-short : goal.attach-class-requires-clause-short
attach-class-requires-clause-short g c = c.requires.own Short ∙ sym (ap (λ (b : QueryClasses). b.turns.short) c.self.view_is)

pub attach-class-requires-clause-long : goal.attach-class-requires-clause-long
attach-class-requires-clause-long g c = c.requires.own Long ∙ sym (ap (λ (b : QueryClasses). b.turns.long) c.self.view_is)
