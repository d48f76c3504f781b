use Rattle.std.proofs.Common.{sym, ap, ◌∙◌}
use Rattle.scan_classes.specs.QueryClasses.{QueryClasses}
use Rattle.scan_classes.specs.declared.class.Class.TheVariants.{Short, Long}
use Rattle.scan_classes.proofs.OneOfTwo.{by_class}
use Rattle.scan_classes.proofs.class_boards.ClassBoardsBoards.close.Goals as goal

pub close-requires-clause-short : goal.close-requires-clause-short
close-requires-clause-short g c = c.requires.own Short ∙ sym (ap (λ (b : QueryClasses). b.turns.short) c.self.view_is)

pub close-requires-clause-long : goal.close-requires-clause-long
close-requires-clause-long g c = c.requires.own Long ∙ sym (ap (λ (b : QueryClasses). b.turns.long) c.self.view_is)

pub returns : goal.returns
returns g c = record { called = by_class _ c.close.ensures.short c.close.ensures.long }
