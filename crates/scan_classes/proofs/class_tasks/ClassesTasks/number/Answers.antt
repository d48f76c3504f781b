use Rattle.scan_classes.specs.declared.class.Class.TheVariants.{Short, Long}
use Rattle.scan_classes.proofs.class_tasks.ClassesTasks.number.Goals as goal

pub returns : goal.returns
returns g c Short = c.number.ensures.short
returns g c Long = c.number.ensures.long
