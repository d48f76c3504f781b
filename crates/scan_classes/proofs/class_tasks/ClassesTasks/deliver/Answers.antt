use Rattle.scan_classes.specs.declared.class.Class.TheVariants.{Short, Long}
use Rattle.scan_classes.proofs.OneOfTwo.{others_stay}
use Rattle.scan_classes.proofs.class_tasks.ClassesTasks.deliver.Goals as goal

pub deliver-requires-clause-short : goal.deliver-requires-clause-short
deliver-requires-clause-short g c = c.requires.own Short

pub deliver-requires-clause-long : goal.deliver-requires-clause-long
deliver-requires-clause-long g c = c.requires.own Long

pub returns-clause-called : goal.returns-clause-called
returns-clause-called g c = c.deliver.ensures.called.here

pub returns-clause-others : goal.returns-clause-others
returns-clause-others g c p = others_stay c.args.place c.args.pair c.deliver.result c.deliver.ensures.called.other p
