use Rattle.std.proofs.Common.{sym, ap, ◌∙◌}
use Rattle.scan_classes.specs.QueryClasses.{QueryClasses}
use Rattle.scan_classes.specs.declared.class.Class.TheVariants.{Short, Long}
use Rattle.scan_classes.proofs.class_boards.ClassBoardsBoards.cancel.Goals as goal

pub cancel-requires-clause-short : goal.cancel-requires-clause-short
cancel-requires-clause-short g c = c.requires.own Short ∙ sym (ap (λ (b : QueryClasses). b.turns.short) c.self.view_is)

pub cancel-requires-clause-long : goal.cancel-requires-clause-long
cancel-requires-clause-long g c = c.requires.own Long ∙ sym (ap (λ (b : QueryClasses). b.turns.long) c.self.view_is)
