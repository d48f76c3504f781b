use Rattle.std.proofs.Common.{◌∙◌, ap, sym}
use Rattle.scan_classes.specs.declared.class.Class.TheVariants.{Short, Long}
use Rattle.scan_classes.proofs.workers.class_worker.Goals as goal

pub worker-requires-clause-root : goal.worker-requires-clause-root
worker-requires-clause-root g c Short = c.requires.root
worker-requires-clause-root g c Long = c.requires.root ∙ sym (ap (λ r. r.root) c.number-number.ensures.pair.root)
